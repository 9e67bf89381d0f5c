-- The lanes of a plan under way, one step more.
use Rattle.std.proofs.Common.{◌≡◌, ◌≢◌, ◌≤◌, ◌<◌, ℕ, zero, suc, ◌+◌, Bool, true, false, ◌&&◌, nat_eq, cond, List, [], ◌∷◌, ◌++◌, length, map, Option, Some, None, refl, sym, ap, subst, ◌∙◌, arith}
use Rattle.std.specs.Prelude.{filter_map, set, get_or, if◌then◌else◌}
use Rattle.std.specs.List.{cons_option}
use Rattle.std.proofs.lemmas.List.{append-nil, length-set, length-map, length_push, map_push}
use Rattle.std.proofs.lemmas.List.Elements.{filter_map-append}
use Rattle.std.proofs.lemmas.Bool.{ne_eqb, eq-eqb}
use Rattle.script_lang.specs.Facts.{session_numbers}
use Rattle.front_model.specs.declared.Opening.{Opening}
use Rattle.front_model.specs.declared.Step.{Step}
use Rattle.front_model.specs.declared.Step.TheVariants as step
use Rattle.front_model.specs.Fates.{Way, is_way}
use Rattle.front_model.specs.Laws.{opened_by}
use Rattle.live_bin.specs.declared.plan.Delivery.{Delivery}
use Rattle.live_bin.specs.declared.plan.Delivery.TheVariants.{Packet, Report}
use Rattle.live_plan.specs.Deliveries.{delivery_on, deliveries, queues}
use Rattle.live_plan.specs.Drafts.{Drafted, draft, unbrought, no_queues, with_delivery, Brings, AreNumbered, lane_number, AreDrafts}

-- ---- lists of things with numbers

pub map_same : {A B : Type 0} (f g : A → B) (xs : List A) → ((x : A) → f x ≡ g x) → map f xs ≡ map g xs
map_same f g [] same = refl
map_same f g (x ∷ xs) same = ap (λ y. y ∷ map f xs) (same x) ∙ ap (λ ys. g x ∷ ys) (map_same f g xs same)

-- one that is changed isn't among those behind it
map_behind : {A B : Type 0} (number : A → ℕ) (f g : A → B) (m n : ℕ) (xs : List A) → AreNumbered number n xs → m < n → ((x : A) → number x ≢ m → f x ≡ g x) → map f xs ≡ map g xs
map_behind number f g m n [] numbered behind same = refl
map_behind number f g m n (x ∷ xs) numbered behind same =
    let at : number x ≡ n = numbered.0 in
    ap (λ y. y ∷ map f xs) (same x (λ e. absurd (omega arith))) ∙ ap (λ ys. g x ∷ ys) (map_behind number f g m (n + 1) xs numbered.1 (omega arith) same)

-- What belongs to one number is set, and the others are as they were.
pub set_one : {A B : Type 0} (number : A → ℕ) (f g : A → B) (m n : ℕ) (xs : List A) (was dflt now : B)
    → AreNumbered number m xs → n < length xs → was ≡ get_or (map f xs) n dflt
    → ((x : A) → number x ≡ m + n → was ≡ f x → now ≡ g x)
    → ((x : A) → number x ≢ m + n → f x ≡ g x)
    → set (map f xs) n now ≡ map g xs
set_one number f g m n [] was dflt now numbered within is one others = absurd (omega arith)
set_one number f g m zero (x ∷ xs) was dflt now numbered within is one others =
    let at : number x ≡ m = numbered.0 in
    ap (λ y. y ∷ map f xs) (one x (omega arith) is) ∙ ap (λ ys. g x ∷ ys) (map_behind number f g (m + 0) (m + 1) xs numbered.1 (omega arith) others)
set_one number f g m (suc n) (x ∷ xs) was dflt now numbered within is one others =
    let at : number x ≡ m = numbered.0 in
    let same : m + 1 + n ≡ m + suc n = omega arith in
    ap (λ y. y ∷ set (map f xs) n now) (others x (λ e. absurd (omega arith)))
    ∙ ap (λ ys. g x ∷ ys)
    (set_one number f g (m + 1) n xs was dflt now numbered.1 (omega arith) is (λ y e. one y (e ∙ same)) (λ y ne. others y (λ e. ne (e ∙ sym same))))

numbered_more : {A : Type 0} (number : A → ℕ) (m : ℕ) (xs : List A) (x : A) → AreNumbered number m xs → number x ≡ m + length xs → AreNumbered number m (xs ++ x ∷ [])
numbered_more number m [] x numbered e = (omega (arith, e), tt)
numbered_more number m (y ∷ xs) x numbered e = (numbered.0, numbered_more number (m + 1) xs x numbered.1 (omega (arith, e)))

sessions_numbered : AreNumbered (λ (n : ℕ). n) 0 session_numbers
sessions_numbered = (refl, (refl, (refl, (refl, (refl, (refl, (refl, (refl, tt))))))))

-- ---- ways

way_is : (a b : Way) → a.0 ≡ b.0 → a.1 ≡ b.1 → is_way a b ≡ true
way_is a b e h = ap (λ (x : Bool). x && nat_eq a.1 b.1) (eq-eqb a.0 b.0 e) ∙ eq-eqb a.1 b.1 h

and_false : (b : Bool) → (b && false) ≡ false
and_false true = refl
and_false false = refl

other_lane : (a b : Way) → a.1 ≢ b.1 → is_way a b ≡ false
other_lane a b ne = ap (λ (x : Bool). nat_eq a.0 b.0 && x) (ne_eqb a.1 b.1 ne) ∙ and_false (nat_eq a.0 b.0)

other_session : (a b : Way) → a.0 ≢ b.0 → is_way a b ≡ false
other_session a b ne = ap (λ (x : Bool). x && nat_eq a.1 b.1) (ne_eqb a.0 b.0 ne)

-- ---- steps

-- The step brings this, and nothing else, and begins no lane.
pub record BringsOnly (x : Step) (session lane : ℕ) (d : Delivery) : Type 0 where
  pub on_ways : (way : Way) → delivery_on way x ≡ (if is_way way (session, lane) then Some d else None)
  pub begins : opened_by x ≡ None

more_deliveries : (steps : List Step) (x : Step) (way : Way) (o : Option Delivery) → delivery_on way x ≡ o → deliveries (steps ++ x ∷ []) way ≡ deliveries steps way ++ cons_option o []
more_deliveries steps x way o e = filter_map-append (delivery_on way) steps (x ∷ []) ∙ ap (λ (y : Option Delivery). deliveries steps way ++ cons_option y []) e

no_more : (steps : List Step) (x : Step) (way : Way) → delivery_on way x ≡ None → deliveries (steps ++ x ∷ []) way ≡ deliveries steps way
no_more steps x way e = more_deliveries steps x way None e ∙ append-nil (deliveries steps way)

one_more : (steps : List Step) (x : Step) (session lane : ℕ) (d : Delivery) (way : Way) → BringsOnly x session lane d → is_way way (session, lane) ≡ true → deliveries (steps ++ x ∷ []) way ≡ deliveries steps way ++ d ∷ []
one_more steps x session lane d way b e = more_deliveries steps x way (Some d) (b.on_ways way ∙ ap (λ (t : Bool). cond t (Some d) None) e)

none_more : (steps : List Step) (x : Step) (session lane : ℕ) (d : Delivery) (way : Way) → BringsOnly x session lane d → is_way way (session, lane) ≡ false → deliveries (steps ++ x ∷ []) way ≡ deliveries steps way
none_more steps x session lane d way b e = no_more steps x way (b.on_ways way ∙ ap (λ (t : Bool). cond t (Some d) None) e)

more_openings : (steps : List Step) (x : Step) (o : Option Opening) → opened_by x ≡ o → filter_map opened_by (steps ++ x ∷ []) ≡ filter_map opened_by steps ++ cons_option o []
more_openings steps x o e = filter_map-append opened_by steps (x ∷ []) ∙ ap (λ (y : Option Opening). filter_map opened_by steps ++ cons_option y []) e

same_openings : (steps : List Step) (x : Step) → opened_by x ≡ None → filter_map opened_by (steps ++ x ∷ []) ≡ filter_map opened_by steps
same_openings steps x e = more_openings steps x None e ∙ append-nil (filter_map opened_by steps)

abbrev with_queues : Opening → List (List Delivery) → Drafted
with_queues o q = record { opening = o; queues = q }

-- ---- a lane begins

silent_queues : (steps : List Step) (lane : ℕ) → ((way : Way) → lane ≤ way.1 → deliveries steps way ≡ []) → queues steps lane ≡ no_queues
silent_queues steps lane silent = map_same (λ (s : ℕ). deliveries steps (s, lane)) (λ (s : ℕ). []) session_numbers (λ s. silent (s, lane) (omega arith))

opened_queues : (steps : List Step) (o : Opening) (lane : ℕ) → queues (steps ++ step.Open o ∷ []) lane ≡ queues steps lane
opened_queues steps o lane =
    map_same (λ (s : ℕ). deliveries (steps ++ step.Open o ∷ []) (s, lane)) (λ (s : ℕ). deliveries steps (s, lane)) session_numbers (λ s. no_more steps (step.Open o) (s, lane) refl)

opened_drafts : (steps : List Step) (o : Opening) (os : List Opening) → map (draft (steps ++ step.Open o ∷ [])) os ≡ map (draft steps) os
opened_drafts steps o os =
    map_same (draft (steps ++ step.Open o ∷ [])) (draft steps) os (λ p. ap (with_queues p) (opened_queues steps o p.lane))

pub opens : (steps : List Step) (o : Opening) (old new : List Drafted) → o.lane ≡ length old → new ≡ old ++ unbrought o ∷ [] → AreDrafts steps old → AreDrafts (steps ++ step.Open o ∷ []) new
opens steps o old new at added h =
    let os = filter_map opened_by steps in
    let opened : filter_map opened_by (steps ++ step.Open o ∷ []) ≡ os ++ o ∷ [] = more_openings steps (step.Open o) (Some o) refl in
    let count : length old ≡ length os = ap length h.drafts_are ∙ length-map os (draft steps) in
    let last : draft (steps ++ step.Open o ∷ []) o ≡ unbrought o =
    ap (with_queues o) (opened_queues steps o o.lane ∙ silent_queues steps o.lane (λ way le. h.silent way (omega (arith, at, le)))) in
    record {
      drafts_are = added ∙ ap (λ (ds : List Drafted). ds ++ unbrought o ∷ []) (h.drafts_are ∙ sym (opened_drafts steps o os))
          ∙ ap (λ (d : Drafted). map (draft (steps ++ step.Open o ∷ [])) os ++ d ∷ []) (sym last)
          ∙ sym (map_push (draft (steps ++ step.Open o ∷ [])) os o)
          ∙ ap (map (draft (steps ++ step.Open o ∷ []))) (sym opened);
      numbered = subst (AreNumbered lane_number 0) (sym opened) (numbered_more lane_number 0 os o h.numbered (omega (arith, at, count)));
      silent = λ way le. no_more steps (step.Open o) way refl ∙ h.silent way (let long : length new ≡ length old + 1 = ap length added ∙ length_push old (unbrought o) in omega (arith, long, le));
    }

-- ---- a line is told

pub tells : (steps : List Step) (x : Step) (drafts : List Drafted) → ((way : Way) → delivery_on way x ≡ None) → opened_by x ≡ None → AreDrafts steps drafts → AreDrafts (steps ++ x ∷ []) drafts
tells steps x drafts none closed h =
    let os = filter_map opened_by steps in
    let opened : filter_map opened_by (steps ++ x ∷ []) ≡ os = same_openings steps x closed in
    let same : map (draft (steps ++ x ∷ [])) os ≡ map (draft steps) os =
    map_same (draft (steps ++ x ∷ [])) (draft steps) os
    (λ p. ap (with_queues p) (map_same (λ (s : ℕ). deliveries (steps ++ x ∷ []) (s, p.lane)) (λ (s : ℕ). deliveries steps (s, p.lane)) session_numbers (λ s. no_more steps x (s, p.lane) (none (s, p.lane))))) in
    record {
      drafts_are = h.drafts_are ∙ sym same ∙ ap (map (draft (steps ++ x ∷ []))) (sym opened);
      numbered = subst (AreNumbered lane_number 0) (sym opened) h.numbered;
      silent = λ way le. no_more steps x way (none way) ∙ h.silent way le;
    }

-- ---- something is brought

-- to the lane itself
brought_here : (steps : List Step) (x : Step) (session lane : ℕ) (d : Delivery) (o : Opening) → BringsOnly x session lane d → o.lane ≡ lane → session < length (queues steps o.lane)
    → with_delivery session d (draft steps o) ≡ draft (steps ++ x ∷ []) o
brought_here steps x session lane d o b at within =
    let f : ℕ → List Delivery = λ s. deliveries steps (s, o.lane) in
    let g : ℕ → List Delivery = λ s. deliveries (steps ++ x ∷ []) (s, o.lane) in
    let count : length (queues steps o.lane) ≡ length session_numbers = length-map session_numbers f in
    ap (with_queues o)
    (set_one (λ (n : ℕ). n) f g 0 session session_numbers (get_or (queues steps o.lane) session []) [] (get_or (queues steps o.lane) session [] ++ d ∷ []) sessions_numbered (omega (arith, within, count)) refl
    (λ s e is. ap (λ (ds : List Delivery). ds ++ d ∷ []) is ∙ sym (one_more steps x session lane d (s, o.lane) b (way_is (s, o.lane) (session, lane) (omega (arith, e)) at)))
    (λ s ne. sym (none_more steps x session lane d (s, o.lane) b (other_session (s, o.lane) (session, lane) (λ e. ne (omega (arith, e)))))))

-- and to another one
brought_there : (steps : List Step) (x : Step) (session lane : ℕ) (d : Delivery) (o : Opening) → BringsOnly x session lane d → o.lane ≢ lane → draft steps o ≡ draft (steps ++ x ∷ []) o
brought_there steps x session lane d o b ne =
    ap (with_queues o)
    (map_same (λ (s : ℕ). deliveries steps (s, o.lane)) (λ (s : ℕ). deliveries (steps ++ x ∷ []) (s, o.lane)) session_numbers
    (λ s. sym (none_more steps x session lane d (s, o.lane) b (other_lane (s, o.lane) (session, lane) ne))))

pub brings : (steps : List Step) (x : Step) (session lane : ℕ) (d : Delivery) (old new : List Drafted) → BringsOnly x session lane d → Brings old new lane session d → AreDrafts steps old → AreDrafts (steps ++ x ∷ []) new
brings steps x session lane d old new only b h =
    let os = filter_map opened_by steps in
    let opened : filter_map opened_by (steps ++ x ∷ []) ≡ os = same_openings steps x only.begins in
    let count : length old ≡ length os = ap length h.drafts_are ∙ length-map os (draft steps) in
    let found : b.was ≡ get_or (map (draft steps) os) lane b.was = b.found ∙ ap (λ (ds : List Drafted). get_or ds lane b.was) h.drafts_are in
    let within : lane < length os = omega (arith, b.lane_is, count) in
    let placed : set (map (draft steps) os) lane (with_delivery session d b.was) ≡ map (draft (steps ++ x ∷ [])) os =
    set_one lane_number (draft steps) (draft (steps ++ x ∷ [])) 0 lane os b.was b.was (with_delivery session d b.was) h.numbered within found
    (λ o e is. ap (with_delivery session d) is ∙ brought_here steps x session lane d o only (omega (arith, e)) (subst (λ (y : Drafted). session < length y.queues) is b.session_is))
    (λ o ne. brought_there steps x session lane d o only (λ e. ne (omega (arith, e)))) in
    record {
      drafts_are = b.new_is ∙ ap (λ (ds : List Drafted). set ds lane (with_delivery session d b.was)) h.drafts_are ∙ placed ∙ ap (map (draft (steps ++ x ∷ []))) (sym opened);
      numbered = subst (AreNumbered lane_number 0) (sym opened) h.numbered;
      silent = λ way le.
          let long : length new ≡ length old = ap length b.new_is ∙ length-set old lane (with_delivery session d b.was) in
          let below : lane < length old = b.lane_is in
          none_more steps x session lane d way only (other_lane way (session, lane) (λ e. absurd (omega (arith, long, le, below, e)))) ∙ h.silent way (omega (arith, long, le));
    }
