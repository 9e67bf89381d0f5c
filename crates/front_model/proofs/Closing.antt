-- A report time is told of each source by itself.
use Rattle.std.proofs.Common.{ℕ, ◌≡◌, refl, sym, ap, subst, ◌∙◌, arith, Bool, true, false, cond, not, List, [], ◌∷◌, Option, None, Some, eqb-true}
use Rattle.std.specs.Prelude.{nat_eq, filter, map, option_map, Result, Ok, Err}
use Rattle.std.specs.Map.{lookup}
use Rattle.std.proofs.lemmas.Bool.Decides.{nat_tests}
use Rattle.indexmap.specs.IndexMap.{insert_entry}
use Rattle.source_table.specs.declared.source.Source.{Source}
use Rattle.source_table.specs.declared.source.Packet.{Packet}
use Rattle.source_table.specs.declared.source.Heard.{Heard}
use Rattle.source_table.specs.declared.answers.Refuse.{Refuse}
use Rattle.source_table.specs.declared.answers.Named.{Named}
use Rattle.source_table.specs.declared.answers.Named.TheVariants.{Unknown, Same, Changed}
use Rattle.rtp_units.specs.declared.shared.Address.{Address}
use Rattle.source_table.specs.History.{only_if}
use Rattle.source_table.specs.Answers.{source_or, heard_next_by, name_next_by}
use Rattle.source_table.specs.Sources.{is_gone, reported, hear_next}
use Rattle.std.specs.List.{list_any}
use Rattle.source_table.specs.Table.{Table, kept, changed_by, gone}
use Rattle.front_model.specs.Given.{Setting, Ask, Hears, Names, Reports, Leaves, Closes, table}
use Rattle.front_model.specs.Probation.{is_removed}

abbrev Entries : Type 0
Entries = List (ℕ × Source)

abbrev at : ℕ → Entries → Option Source
at k es = lookup (nat_eq k) es

abbrev Distinct : Entries → Type 0
Distinct [] = Unit {0}
Distinct (e ∷ es) = (at e.0 es ≡ None) × Distinct es

-- ---- a source that is put

turned : (a b : ℕ) → nat_eq a b ≡ false → nat_eq b a ≡ false
turned a b e = grind (arith, nat_tests)

other_by : (b : Bool) (j k x : ℕ) (v w : Source) (es ins : Entries) → nat_eq k x ≡ b → nat_eq j k ≡ false → at j ins ≡ at j es → at j (cond b ((x, v) ∷ es) ((x, w) ∷ ins)) ≡ at j ((x, w) ∷ es)
other_by true j k x v w es ins e other rest =
    let same : k ≡ x = eqb-true k x e in
    let apart : nat_eq j x ≡ false = subst (λ (y : ℕ). nat_eq j y ≡ false) same other in
    rw apart refl
other_by false j k x v w es ins e other rest = ap (λ (o : Option Source). cond (nat_eq j x) (Some w) o) rest

at_other : (es : Entries) (j k : ℕ) (v : Source) → nat_eq j k ≡ false → at j (insert_entry nat_eq es k v) ≡ at j es
at_other [] j k v other = rw other refl
at_other (e ∷ es) j k v other = other_by (nat_eq k e.0) j k e.0 v e.1 es (insert_entry nat_eq es k v) refl other (at_other es j k v other)

distinct_by : (b : Bool) (k x : ℕ) (v w : Source) (es ins : Entries) → nat_eq k x ≡ b → at x es ≡ None → Distinct es → Distinct ins → (nat_eq x k ≡ false → at x ins ≡ at x es) → Distinct (cond b ((x, v) ∷ es) ((x, w) ∷ ins))
distinct_by true k x v w es ins e none d rest h = (none, d)
distinct_by false k x v w es ins e none d rest h = (h (turned k x e) ∙ none, rest)

distinct_put : (es : Entries) (k : ℕ) (v : Source) → Distinct es → Distinct (insert_entry nat_eq es k v)
distinct_put [] k v d = (refl, tt)
distinct_put (e ∷ es) k v d = distinct_by (nat_eq k e.0) k e.0 v e.1 es (insert_entry nat_eq es k v) refl d.0 d.1 (distinct_put es k v d.1) (λ h. at_other es e.0 k v h)

-- ---- sources that stay

abbrev IsNothing : Option Source → Type 0
IsNothing None = Unit {0}
IsNothing (Some s) = ⊥

head_none : (c : Bool) (v : Source) (o p : Option Source) → cond c (Some v) o ≡ None → (o ≡ None → p ≡ None) → cond c (Some v) p ≡ None
head_none true v o p e f = e
head_none false v o p e f = f e

tail_none : (c : Bool) (v : Source) (o : Option Source) → cond c (Some v) o ≡ None → o ≡ None
tail_none true v o e = absurd (subst IsNothing (sym e) tt)
tail_none false v o e = e

drop_by : (b : Bool) (k : ℕ) (x : ℕ × Source) (es left : Entries) → at k (x ∷ es) ≡ None → (at k es ≡ None → at k left ≡ None) → at k (cond b (x ∷ left) left) ≡ None
drop_by true k x es left e f = head_none (nat_eq k x.0) x.1 (at k es) (at k left) e f
drop_by false k x es left e f = f (tail_none (nat_eq k x.0) x.1 (at k es) e)

none_kept : (stays : ℕ × Source → Bool) (es : Entries) (k : ℕ) → at k es ≡ None → at k (filter stays es) ≡ None
none_kept stays [] k e = e
none_kept stays (x ∷ es) k e = drop_by (stays x) k x es (filter stays es) e (none_kept stays es k)

distinct_if : (b : Bool) (x : ℕ × Source) (left : Entries) → at x.0 left ≡ None → Distinct left → Distinct (cond b (x ∷ left) left)
distinct_if true x left e d = (e, d)
distinct_if false x left e d = d

distinct_kept : (stays : ℕ × Source → Bool) (es : Entries) → Distinct es → Distinct (filter stays es)
distinct_kept stays [] d = d
distinct_kept stays (x ∷ es) d = distinct_if (stays x) x (filter stays es) (none_kept stays es x.0 d.0) (distinct_kept stays es d.1)

kept_by : (test : Source → Bool) (c b : Bool) (k : ℕ) (x : ℕ × Source) (es : Entries) → nat_eq k x.0 ≡ c → test x.1 ≡ b → at x.0 es ≡ None
    → at k (filter (λ e. test e.1) es) ≡ only_if test (at k es)
    → at k (cond b (x ∷ filter (λ e. test e.1) es) (filter (λ e. test e.1) es)) ≡ only_if test (cond c (Some x.1) (at k es))
kept_by test true true k x es e t none rest = rw (e, t) refl
kept_by test true false k x es e t none rest =
    let key : k ≡ x.0 = eqb-true k x.0 e in
    let gone : at k (filter (λ y. test y.1) es) ≡ None = none_kept (λ y. test y.1) es k (ap (λ (y : ℕ). at y es) key ∙ none) in
    rw t gone
kept_by test false true k x es e t none rest = rw e rest
kept_by test false false k x es e t none rest = rest

at_kept : (test : Source → Bool) (es : Entries) (k : ℕ) → Distinct es → at k (filter (λ e. test e.1) es) ≡ only_if test (at k es)
at_kept test [] k d = refl
at_kept test (x ∷ es) k d = kept_by test (nat_eq k x.0) (test x.1) k x es refl refl d.0 (at_kept test es k d.1)

-- ---- sources that are changed all

mapped_by : (f : Source → Source) (c : Bool) (v : Source) (o p : Option Source) → o ≡ option_map f p → cond c (Some (f v)) o ≡ option_map f (cond c (Some v) p)
mapped_by f true v o p e = refl
mapped_by f false v o p e = e

at_mapped : (f : Source → Source) (es : Entries) (k : ℕ) → at k (map (λ e. (e.0, f e.1)) es) ≡ option_map f (at k es)
at_mapped f [] k = refl
at_mapped f (x ∷ es) k = mapped_by f (nat_eq k x.0) x.1 (at k (map (λ e. (e.0, f e.1)) es)) (at k es) (at_mapped f es k)

distinct_mapped : (f : Source → Source) (es : Entries) → Distinct es → Distinct (map (λ e. (e.0, f e.1)) es)
distinct_mapped f [] d = d
distinct_mapped f (x ∷ es) d = (at_mapped f es x.0 ∙ ap (option_map f) d.0, distinct_mapped f es d.1)

-- ---- the table of a session

after_packet : (t : Table) (from : Address) (x : ℕ) (p : Packet) (r : Result Heard Refuse) → Distinct t.sources → Distinct (heard_next_by t from x p r).sources
after_packet t from x p (Ok h) d = distinct_put t.sources x (hear_next (source_or from (kept t x)) p) d
after_packet t from x p (Err why) d = d

after_name : (t : Table) (x : ℕ) (text : List ℕ) (n : Named) → Distinct t.sources → Distinct (name_next_by t x text n).sources
after_name t x text Changed d = d
after_name t x text Same d = d
after_name t x text Unknown d = d

after_change : (t : Table) (x : ℕ) (o : Option Source) (f : Source → Source) → Distinct t.sources → Distinct (changed_by t x o f).sources
after_change t x None f d = d
after_change t x (Some s) f d = distinct_put t.sources x (f s) d

pub distinct : (s : Setting) (asks : List Ask) → Distinct (table s asks).sources
distinct s [] = tt
distinct s (Hears now from view rate ∷ before) = after_packet (table s before) from view.ssrc _ _ (distinct s before)
distinct s (Names x text ∷ before) = after_name (table s before) x text _ (distinct s before)
distinct s (Reports now x seconds fraction rtp ∷ before) = after_change (table s before) x _ _ (distinct s before)
distinct s (Leaves x ∷ before) = after_change (table s before) x _ _ (distinct s before)
distinct s (Closes now timeout ∷ before) =
    distinct_mapped reported (filter (λ e. not (is_gone e.1 now timeout)) (table s before).sources)
    (distinct_kept (λ e. not (is_gone e.1 now timeout)) (table s before).sources (distinct s before))

-- a report time leaves of a source what it would leave of it alone
pub closed : (s : Setting) (before : List Ask) (now timeout ssrc : ℕ)
    → kept (table s (Closes now timeout ∷ before)) ssrc ≡ option_map reported (only_if (λ x. not (is_gone x now timeout)) (kept (table s before) ssrc))
closed s before now timeout ssrc =
    at_mapped reported (filter (λ e. not (is_gone e.1 now timeout)) (table s before).sources) ssrc
    ∙ ap (option_map reported) (at_kept (λ x. not (is_gone x now timeout)) (table s before).sources ssrc (distinct s before))

-- ---- the SSRCs that are removed

abbrev named : ℕ → Entries → Bool
named k es = list_any (nat_eq k) (map (λ e. e.0) es)

named_by : (now timeout : ℕ) (c b : Bool) (k : ℕ) (x : ℕ × Source) (es left : Entries) → nat_eq k x.0 ≡ c → is_gone x.1 now timeout ≡ b → at x.0 es ≡ None
    → named k left ≡ is_removed (at k es) now timeout → named k (cond b (x ∷ left) left) ≡ is_removed (cond c (Some x.1) (at k es)) now timeout
named_by now timeout true true k x es left e t none rest = rw (e, t) refl
named_by now timeout true false k x es left e t none rest =
    let key : k ≡ x.0 = eqb-true k x.0 e in
    let absent : at k es ≡ None = ap (λ (y : ℕ). at y es) key ∙ none in
    rest ∙ ap (λ (o : Option Source). is_removed o now timeout) absent ∙ sym t
named_by now timeout false true k x es left e t none rest = rw e rest
named_by now timeout false false k x es left e t none rest = rest

named_gone : (now timeout : ℕ) (es : Entries) (k : ℕ) → Distinct es → named k (filter (λ e. is_gone e.1 now timeout) es) ≡ is_removed (at k es) now timeout
named_gone now timeout [] k d = refl
named_gone now timeout (x ∷ es) k d =
    named_by now timeout (nat_eq k x.0) (is_gone x.1 now timeout) k x es (filter (λ e. is_gone e.1 now timeout) es) refl refl d.0 (named_gone now timeout es k d.1)

pub removed : (s : Setting) (before : List Ask) (now timeout ssrc : ℕ) → list_any (nat_eq ssrc) (gone (table s before) now timeout) ≡ is_removed (kept (table s before) ssrc) now timeout
removed s before now timeout ssrc = named_gone now timeout (table s before).sources ssrc (distinct s before)
