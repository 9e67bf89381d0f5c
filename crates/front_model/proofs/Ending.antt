-- Packets that come to a session wait or end once.
use Rattle.std.proofs.Common.{ℕ, ◌+◌, ◌≡◌, refl, ap, subst, ◌∙◌, arith, Bool, true, false, List, [], ◌∷◌, ◌++◌, Option, None, Some, eqb-true}
use Rattle.std.specs.Prelude.{if◌then◌else◌, nat_eq, nat_lt, filter, filter_map, length, map, Result, Ok, Err}
use Rattle.std.proofs.lemmas.List.{append-nil}
use Rattle.rtp_units.specs.declared.shared.Address.{Address}
use Rattle.rtp_wire.specs.Packet.{Packet as View}
use Rattle.source_table.specs.declared.source.Source.{Source}
use Rattle.source_table.specs.declared.source.Packet.{Packet}
use Rattle.source_table.specs.declared.source.Heard.{Heard}
use Rattle.source_table.specs.declared.source.Heard.TheVariants.{Waiting, NowValid, Valid}
use Rattle.source_table.specs.declared.answers.Refuse.{Refuse}
use Rattle.source_table.specs.declared.answers.Refuse.TheVariants.{Own, LimitSources, Collision}
use Rattle.source_table.specs.Sources.{fresh, hear_answer}
use Rattle.source_table.specs.Table.{Table, kept, packet_of}
use Rattle.source_table.specs.Answers.{is_address, heard, heard_by}
use Rattle.front_model.specs.Given.{Setting, Ask, Hears, Names, Reports, Leaves, Closes, is_quick, table}
use Rattle.front_model.specs.Probation.{Kept, kept_at, answer, waiting, waiting_next, is_removed}
use Rattle.front_model.specs.Notes.{Note, Holds, Releases, broken, packet_notes, ask_notes}
use Rattle.front_model.specs.Laws.{came, ended, ended_by, passing}
use Rattle.front_model.proofs.Lists.{filter_append, length_append}

-- ---- answers that there are: never want of memory

if_both : (P : Result Heard Refuse → Type 0) (b : Bool) (x y : Result Heard Refuse) → P x → P y → P (if b then x else y)
if_both P true x y f g = f
if_both P false x y f g = g

-- what holds of each answer but want of memory
record OfAnswers (P : Result Heard Refuse → Type 0) : Type 0 where
  heard : (h : Heard) → P (Ok h)
  own : P (Err Own)
  sources : P (Err LimitSources)
  collision : (first other : Address) → P (Err (Collision first other))

of_source : (P : Result Heard Refuse → Type 0) → OfAnswers P → (t : Table) (o : Option Source) (from : Address) (p : Packet) → P (heard_by t o from p)
of_source P f t None from p = if_both P (nat_lt (length t.sources) 64) _ _ (f.heard (hear_answer (fresh from) p)) f.sources
of_source P f t (Some s) from p = if_both P (is_address s.from from) _ _ (f.heard (hear_answer s p)) (f.collision s.from from)

of_heard : (P : Result Heard Refuse → Type 0) → OfAnswers P → (t : Table) (from : Address) (ssrc : ℕ) (p : Packet) → P (heard t from ssrc p)
of_heard P f t from ssrc p = if_both P (nat_eq ssrc t.own) _ _ f.own (of_source P f t (kept t ssrc) from p)

-- ---- one packet

passing_both : (test : Kept → Bool) (xs ys : List Kept) → passing test (xs ++ ys) ≡ passing test xs + passing test ys
passing_both test xs ys = ap (λ (l : List Kept). length l) (filter_append test xs ys) ∙ length_append (filter test xs) (filter test ys)

all_broken : (ks : List Kept) (rest : List Note) → filter_map ended_by (map broken ks ++ rest) ≡ ks ++ filter_map ended_by rest
all_broken [] rest = refl
all_broken (k ∷ ks) rest = ap (λ (l : List Kept). k ∷ l) (all_broken ks rest)

all_released : (ks : List Kept) (rest : List Note) → filter_map ended_by (map Releases ks ++ rest) ≡ ks ++ filter_map ended_by rest
all_released [] rest = refl
all_released (k ∷ ks) rest = ap (λ (l : List Kept). k ∷ l) (all_released ks rest)

-- A packet that comes to those that wait waits too, or ends, and so do they.
abbrev Settles : (Kept → Bool) → List Kept → Kept → Result Heard Refuse → Type 0
Settles test ks k a = passing test (k ∷ ks) ≡ passing test (filter_map ended_by (packet_notes ks k a)) + passing test (waiting_next ks k a)

one_more : (test : Kept → Bool) (k : Kept) (ks : List Kept) → passing test (k ∷ ks) ≡ passing test (k ∷ []) + passing test ks
one_more test k ks = passing_both test (k ∷ []) ks

settles_heard : (test : Kept → Bool) (ks : List Kept) (k : Kept) (h : Heard) → Settles test ks k (Ok h)
settles_heard test ks k (Waiting true) =
    let e = one_more test k ks in
    let f : passing test (filter_map ended_by (map broken ks ++ Holds k ∷ [])) ≡ passing test ks =
    ap (λ (l : List Kept). passing test l) (all_broken ks (Holds k ∷ []) ∙ append-nil ks) in
    omega (arith, e, f)
settles_heard test ks k (Waiting false) =
    let e = one_more test k ks in
    let f = passing_both test ks (k ∷ []) in
    omega (arith, e, f)
settles_heard test ks k NowValid =
    let e = one_more test k ks in
    let f : passing test (filter_map ended_by (map Releases ks ++ Releases k ∷ [])) ≡ passing test (ks ++ k ∷ []) =
    ap (λ (l : List Kept). passing test l) (all_released ks (Releases k ∷ [])) in
    let g = passing_both test ks (k ∷ []) in
    omega (arith, e, f, g)
settles_heard test ks k Valid = one_more test k ks

settles : (test : Kept → Bool) (ks : List Kept) (k : Kept) → OfAnswers (Settles test ks k)
settles test ks k = record {
  heard = settles_heard test ks k;
  own = one_more test k ks;
  sources = one_more test k ks;
  collision = λ first other. one_more test k ks;
}

answer_settles : (s : Setting) (before : List Ask) (now : ℕ) (from : Address) (view : View) (rate : Option ℕ) (test : Kept → Bool) (ks : List Kept)
    → Settles test ks (kept_at now view) (answer s before now from view rate)
answer_settles s before now from view rate test ks =
    of_heard (Settles test ks (kept_at now view)) (settles test ks (kept_at now view)) (table s before) from view.ssrc
    (packet_of (table s before) now view rate (is_quick s view.ssrc))

-- ---- all packets

-- as many came as ended and wait
abbrev Even : (Kept → Bool) → List Kept → List Kept → List Kept → Type 0
Even test came ended waiting = passing test came ≡ passing test ended + passing test waiting

even_heard : (test : Kept → Bool) (b : Bool) (k : Kept) (came ended done waiting next : List Kept) → (b ≡ true → passing test (k ∷ waiting) ≡ passing test done + passing test next) → Even test came ended waiting
    → Even test (if b then k ∷ came else came) (if b then done ++ ended else ended) (if b then next else waiting)
even_heard test true k came ended done waiting next f e =
    let a = one_more test k came in
    let d = one_more test k waiting in
    let g = passing_both test done ended in
    let h = f refl in
    omega (arith, e, a, d, g, h)
even_heard test false k came ended done waiting next f e = e

even_closed : (test : Kept → Bool) (b : Bool) (came ended waiting : List Kept) → Even test came ended waiting → Even test came (if b then waiting ++ ended else ended) (if b then [] else waiting)
even_closed test true came ended waiting e = let g = passing_both test waiting ended in omega (arith, e, g)
even_closed test false came ended waiting e = e

pub even : (s : Setting) (ssrc : ℕ) (asks : List Ask) (test : Kept → Bool) → passing test (came ssrc asks) ≡ passing test (ended s ssrc asks) + passing test (waiting s ssrc asks)
even s ssrc [] test = refl
even s ssrc (Hears now from view rate ∷ before) test =
    even_heard test (nat_eq ssrc view.ssrc) (kept_at now view) (came ssrc before) (ended s ssrc before)
    (filter_map ended_by (ask_notes s before (Hears now from view rate))) (waiting s ssrc before)
    (waiting_next (waiting s ssrc before) (kept_at now view) (answer s before now from view rate))
    (λ e. subst (λ (x : ℕ). passing test (kept_at now view ∷ waiting s ssrc before) ≡ passing test (filter_map ended_by (packet_notes (waiting s x before) (kept_at now view) (answer s before now from view rate))) + passing test (waiting_next (waiting s ssrc before) (kept_at now view) (answer s before now from view rate)))
    (eqb-true ssrc view.ssrc e) (answer_settles s before now from view rate test (waiting s ssrc before)))
    (even s ssrc before test)
even s ssrc (Names x text ∷ before) test = even s ssrc before test
even s ssrc (Reports now x seconds fraction rtp ∷ before) test = even s ssrc before test
even s ssrc (Leaves x ∷ before) test = even s ssrc before test
even s ssrc (Closes now timeout ∷ before) test =
    even_closed test (is_removed (kept (table s before) ssrc) now timeout) (came ssrc before) (ended s ssrc before) (waiting s ssrc before) (even s ssrc before test)
