-- What a scan stands for, with one sight more.
use Rattle.std.proofs.Common.{◌≡◌, ℕ, suc, ◌+◌, ◌-◌, ◌^◌, Bool, true, false, cond, List, [], ◌∷◌}
use Rattle.std.proofs.Common.{length, map, Option, Some, None, refl, sym, ap, ◌∙◌, arith}
use Rattle.std.specs.Prelude.{◌||◌, if◌then◌else◌, is_some, option_map, nat_lt, nat_eq, min}
use Rattle.std.specs.Map.{lookup}
use Rattle.std.proofs.lemmas.List.{length-map}
use Rattle.indexmap.specs.IndexMap.{insert_entry}
use Rattle.indexmap.specs.IndexSet.{insert_key}
use Rattle.rtp_scan.specs.declared.sight.Arrival.{Arrival}
use Rattle.rtp_scan.specs.declared.sight.Sight.{Sight}
use Rattle.rtp_scan.specs.declared.sight.Sight.TheVariants as sight
use Rattle.rtp_scan.specs.declared.stream.Stream.{Stream}
use Rattle.rtp_scan.specs.Sights.{arrivals_of, compounds_of}
use Rattle.rtp_scan.specs.Streams.{Key, Packets, Group, Found, is_key, key_of, behind, grouped}
use Rattle.rtp_scan.specs.Streams.{groups_of, has_place, left_out_of, told_of, told_group, ports_of}
use Rattle.rtp_scan.specs.Streams.{found_in, max_streams}
use Rattle.rtp_scan.specs.Steps.{told_next, with_arrival, with_sight}

told_some : (b : Bool) (g : Group) (k : Key) (gs : List Group)
    → lookup (is_key k) (map told_group gs) ≡ option_map told_of (lookup (is_key k) gs)
    → cond b (Some (told_of g.1)) (lookup (is_key k) (map told_group gs))
    ≡ option_map told_of (cond b (Some g.1) (lookup (is_key k) gs))
told_some true g k gs more = refl
told_some false g k gs more = more

lookup_told : (k : Key) (gs : List Group) → lookup (is_key k) (map told_group gs)
    ≡ option_map told_of (lookup (is_key k) gs)
lookup_told k [] = refl
lookup_told k (g ∷ gs) = told_some (is_key k g.0) g k gs (lookup_told k gs)

put_by : (b : Bool) (g : Group) (k : Key) (ps : Packets) (gs : List Group)
    → insert_entry is_key (map told_group gs) k (told_of ps)
    ≡ map told_group (insert_entry is_key gs k ps)
    → cond b ((g.0, told_of ps) ∷ map told_group gs)
    (told_group g ∷ insert_entry is_key (map told_group gs) k (told_of ps))
    ≡ map told_group (cond b ((g.0, ps) ∷ gs) (g ∷ insert_entry is_key gs k ps))
put_by true g k ps gs more = refl
put_by false g k ps gs more = ap (λ (es : List (Key × Stream)). told_group g ∷ es) more

insert_told : (k : Key) (ps : Packets) (gs : List Group)
    → insert_entry is_key (map told_group gs) k (told_of ps)
    ≡ map told_group (insert_entry is_key gs k ps)
insert_told k ps [] = refl
insert_told k ps (g ∷ gs) = put_by (is_key k g.0) g k ps gs (insert_told k ps gs)

some_told : (o : Option Packets) → is_some (option_map told_of o) ≡ is_some o
some_told None = refl
some_told (Some ps) = refl

place_told : (k : Key) (gs : List Group) → has_place (map told_group gs) k ≡ has_place gs k
place_told k gs =
    ap (λ (o : Option Stream). is_some o || nat_lt (length (map told_group gs)) max_streams)
    (lookup_told k gs)
    ∙ ap (λ (b : Bool). b || nat_lt (length (map told_group gs)) max_streams)
    (some_told (lookup (is_key k) gs))
    ∙ ap (λ (n : ℕ). is_some (lookup (is_key k) gs) || nat_lt n max_streams)
    (length-map gs told_group)

count_suc : (n : ℕ) → min (suc n) (2 ^ 64 - 1) ≡ min (min n (2 ^ 64 - 1) + 1) (2 ^ 64 - 1)
count_suc n = omega arith

-- what is told of packets and one behind them
told_behind : (a : Arrival) (o : Option Packets) → told_of (behind a o)
    ≡ told_next (option_map told_of o) a
unfolding told_of
told_behind a None = refl
told_behind a (Some ps) =
    ap (λ (n : ℕ). record (told_next (Some (told_of ps)) a) { packets = n })
    (count_suc (length (ps.0 ∷ ps.1)))

-- where there is place, and where there is none
place_taken : (gs : List Group) (a : Arrival) (ports : List ℕ) (out : ℕ) (b : Bool)
    → has_place gs (key_of a) ≡ b
    → record { streams = map told_group (grouped gs a); ports = ports; left_out = out + cond b 0 1 }
    ≡ with_arrival (record { streams = map told_group gs; ports = ports; left_out = out }) a
place_taken gs a ports out true e =
    let k = key_of a in
    let es = map told_group gs in
    let o = lookup (is_key k) gs in
    let found : Found = record { streams = es; ports = ports; left_out = out } in
    let put : List (Key × Stream) = insert_entry is_key es k (told_next (lookup (is_key k) es) a) in
    let same : map told_group (insert_entry is_key gs k (behind a o)) ≡ put =
    sym (insert_told k (behind a o) gs)
    ∙ ap (λ (s : Stream). insert_entry is_key es k s) (told_behind a o
    ∙ ap (λ (x : Option Stream). told_next x a) (sym (lookup_told k gs))) in
    let left : map told_group (grouped gs a) ≡ put =
    ap (λ (b : Bool). map told_group (cond b (insert_entry is_key gs k (behind a o)) gs)) e
    ∙ same in
    let none : out + 0 ≡ out = omega arith in
    let right : record found { streams = put } ≡ with_arrival found a =
    ap (λ (b : Bool). cond b (record found { streams = put }) (record found { left_out = out + 1 }))
    (sym (place_told k gs ∙ e)) in
    ap (λ (l : List (Key × Stream)). record { streams = l; ports = ports; left_out = out + 0 }) left
    ∙ ap (λ (n : ℕ). record { streams = put; ports = ports; left_out = n }) none ∙ right
place_taken gs a ports out false e =
    let k = key_of a in
    let es = map told_group gs in
    let o = lookup (is_key k) gs in
    let found : Found = record { streams = es; ports = ports; left_out = out } in
    let put : List (Key × Stream) = insert_entry is_key es k (told_next (lookup (is_key k) es) a) in
    let left : map told_group (grouped gs a) ≡ es =
    ap (λ (b : Bool). map told_group (cond b (insert_entry is_key gs k (behind a o)) gs)) e in
    let right : record found { left_out = out + 1 } ≡ with_arrival found a =
    ap (λ (b : Bool). cond b (record found { streams = put }) (record found { left_out = out + 1 }))
    (sym (place_told k gs ∙ e)) in
    ap (λ (l : List (Key × Stream)). record { streams = l; ports = ports; left_out = out + 1 }) left
    ∙ right

-- what is found in one sight more
pub found_next : (s : Sight) (before : List Sight) → found_in (s ∷ before)
    ≡ with_sight (found_in before) s
unfolding found_in groups_of left_out_of
found_next (sight.Rtp a) before =
    place_taken (groups_of (arrivals_of before)) a (ports_of (compounds_of before))
    (left_out_of (arrivals_of before)) (has_place (groups_of (arrivals_of before)) (key_of a)) refl
found_next (sight.Compound port) before = refl
found_next sight.Nothing before = refl
