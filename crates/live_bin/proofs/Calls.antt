-- Ends, steps of the clock and turns keep what the type of a lane's state keeps.
use Rattle.std.proofs.Common.{ℕ, ◌≡◌, ◌<◌, inl, inr, Bool, true, false, not, ◌&&◌, ◌||◌, refl, sym, ap, ◌∙◌, List, [], ◌∷◌, ◌++◌, Some, Result, Ok, Err, IfOk, OnErr, arith}
use Rattle.std.specs.Prelude.{nat_lt}
use Rattle.std.proofs.lemmas.Grind.{common_steps}
use Rattle.std.proofs.lemmas.List.{append-nil, reverse-append}
use Rattle.std.proofs.Math.Logic.{∥∥₁_map, ∥∥₁_elim}
use Rattle.std.proofs.Props.{props}
use Rattle.jitter_model.specs.declared.Settings.{Settings}
use Rattle.jitter_model.specs.declared.Entry.TheVariants as call
use Rattle.jitter_model.specs.declared.Turn.{Turn}
use Rattle.jitter_model.specs.declared.Turn.TheVariants as reply
use Rattle.jitter_model.specs.History.{is_pusher, has_ended, all_ended, is_end}
use Rattle.jitter_model.specs.Turns.{turn}
use Rattle.jitter_core.specs.Words.{Stands, settings_of}
use Rattle.live_bin.specs.declared.plan.Plan.{Plan}
use Rattle.live_bin.specs.declared.plan.PlanLane.{PlanLane}
use Rattle.live_bin.specs.declared.entry.Entry.{Entry}
use Rattle.live_bin.specs.declared.entry.Entry.TheVariants.{Clock, Ends, Packet, Lost, Request, End}
use Rattle.live_bin.specs.declared.entry.Next.{Next}
use Rattle.live_bin.specs.declared.lane.Progress.{Progress}
use Rattle.live_bin.specs.declared.lane.Lane.{Lane}
use Rattle.live_bin.specs.Journals.{past, has_left, stands_for}
use Rattle.live_bin.specs.Steps.{IsSame, Adds, Rests, TakesTurn, TurnDoes, with_ended, left_for, can_end, entries_of, next_after}
use Rattle.live_bin.specs.Words.{newest, lane_in, history, may_end, ended, turned, answer}
use Rattle.live_bin.specs.Kept.{Counts, IsKept}
use Rattle.live_bin.proofs.Pushers.{clash, pusher_small}
use Rattle.live_bin.proofs.Keeping.{Knows, adds_kept, same_kept, counts_end}

-- ---- ends

small_and : (b rest : Bool) (q : ℕ) → (b ≡ true → q < 9) → (nat_lt q 9 && (b && rest)) ≡ (b && rest)
small_and true rest q small = let less : q < 9 = small refl in let is : nat_lt q 9 ≡ true = grind (arith, common_steps) in rw is refl
small_and false rest q small = elim (nat_lt q 9) as (λ b. (b && false) ≡ false) [ true ↦ refl | false ↦ refl ]

left_is : (l : PlanLane) (g : Progress) (es : List Entry) (q : ℕ) → Counts l g es → left_for l g q ≡ has_left l es q
left_is l g es q c = rw (c.controls_are, c.given_are q) refl

end_is : (l : PlanLane) (g : Progress) (es : List Entry) (q : ℕ) → l.settings.pushers < 512 → Counts l g es
    → can_end l g q ≡ (is_pusher l.settings.pushers q && (not (has_ended (past l es) q) && not (has_left l es q)))
end_is l g es q few c = small_and (is_pusher l.settings.pushers q) _ q (pusher_small l.settings.pushers q few) ∙ rw (c.ended_are q, left_is l g es q c) refl

pub may_end_is : (p : Plan) (s : Lane) (q : ℕ) → (lane_in p s).settings.pushers < 512 → IsKept p s → can_end (lane_in p s) s.progress q ≡ may_end p s q
may_end_is p s q few kept = ∥∥₁_elim kept (hlevel props) (λ k. end_is (lane_in p s) s.progress (newest s) q few k.counts)

record AllThree (a b c : Bool) : Type 0 where
  first : a ≡ true
  second : b ≡ false
  third : c ≡ false

all_three : (a b c : Bool) → true ≡ (a && (not b && not c)) → AllThree a b c
all_three true true c e = clash e
all_three true false true e = clash e
all_three true false false e = record { first = refl; second = refl; third = refl }
all_three false b c e = clash e

abbrev pub EndsIt : Lane → Lane → ℕ → Type 0
EndsIt s t q = Adds s t (Ends q) (call.Ends q) (with_ended s.progress q)

pub ends_kept : (p : Plan) (s t : Lane) (q : ℕ) → (lane_in p s).settings.pushers < 512 → IsKept p s
    → (b : Bool) → b ≡ can_end (lane_in p s) s.progress q → (b ≡ true → EndsIt s t q) → (b ≡ false → IsSame s t) → IsKept p t
ends_kept p s t q few kept true is done same =
    let may = all_three _ _ _ (is ∙ may_end_is p s q few kept) in
    let a = done refl in
    adds_kept p s t (Ends q) _ kept a.number a.progress a.settings a.journal (λ k. (
      record { pusher = may.first; goes_on = may.second; nothing = may.third },
      counts_end (lane_in p s) s.progress (newest s) q k.counts (pusher_small _ q few may.first),
      a.buffer (history p s) k.stands,
    ))
ends_kept p s t q few kept false is done same = same_kept p s t kept (same refl)

pub ends_added : (p : Plan) (s t : Lane) (q : ℕ) → (lane_in p s).settings.pushers < 512 → IsKept p s
    → (b : Bool) → b ≡ can_end (lane_in p s) s.progress q → (b ≡ true → EndsIt s t q) → (b ≡ false → IsSame s t)
    → t.journal.items ≡ s.journal.items ++ ended (may_end p s q) q
ends_added p s t q few kept true is done same = rw (← (is ∙ may_end_is p s q few kept)) (done refl).journal
ends_added p s t q few kept false is done same = rw (← (is ∙ may_end_is p s q few kept)) ((same refl).journal ∙ sym (append-nil s.journal.items))

-- ---- steps of the clock

pub tick_kept : (p : Plan) (s u : Lane) (t : ℕ) → IsKept p s → all_ended (lane_in p s).settings (history p s) ≡ true → turn (lane_in p s).settings (history p s) ≡ reply.Idle (Some t)
    → Adds s u (Clock 9 t) (call.Clock t) s.progress → IsKept p u
tick_kept p s u t kept e w a =
    adds_kept p s u (Clock 9 t) _ kept a.number a.progress a.settings a.journal (λ k. (
      inr (refl, record { ended = e; wake = w }),
      record { given_long = k.counts.given_long; given_are = k.counts.given_are; controls_are = k.counts.controls_are; ended_long = k.counts.ended_long; ended_are = k.counts.ended_are; told_is = k.counts.told_is },
      a.buffer (history p s) k.stands,
    ))

-- the history that one more entry leaves
pub history_added : (p : Plan) (s t : Lane) (e : Entry) → t.number ≡ s.number → t.journal.items ≡ s.journal.items ++ e ∷ [] → history p t ≡ stands_for (lane_in p s) e ∷ history p s
history_added p s t e number journal = rw (number, journal, reverse-append s.journal.items (e ∷ [])) refl

-- ---- turns

abbrev pub TurnAdds : Lane → Lane → Entry → Turn → Type 0
TurnAdds s t e r = Adds s t e (call.Turned r) s.progress

run_after : (p : Plan) (s t : Lane) (r : Turn) → Knows p s → settings_of t.buffer ≡ settings_of s.buffer → Stands t.buffer (call.Turned r ∷ history p s) → r ≡ turn (lane_in p s).settings (history p s)
run_after p s t r k settings stands = stands.run.0 ∙ ap (λ (x : Settings). turn x (history p s)) (settings ∙ k.settings)

pub reply_is : (p : Plan) (s t : Lane) (r : Turn) → Knows p s → TakesTurn s t r → r ≡ turn (lane_in p s).settings (history p s)
reply_is p s t (reply.Packet n pts x) k a = run_after p s t _ k a.settings (a.buffer (history p s) k.stands)
reply_is p s t (reply.Lost n count pts duration) k a = run_after p s t _ k a.settings (a.buffer (history p s) k.stands)
reply_is p s t (reply.Request n i) k a = run_after p s t _ k a.settings (a.buffer (history p s) k.stands)
reply_is p s t reply.End k a = run_after p s t _ k a.settings (a.buffer (history p s) k.stands)
reply_is p s t (reply.Idle w) k a = a.reply (history p s) k.stands ∙ ap (λ (x : Settings). turn x (history p s)) k.settings
reply_is p s t reply.Flushing k a = a.reply (history p s) k.stands ∙ ap (λ (x : Settings). turn x (history p s)) k.settings

journal_is : (s t : Lane) (r : Turn) → TakesTurn s t r → t.journal.items ≡ s.journal.items ++ entries_of r
journal_is s t (reply.Packet n pts x) a = a.journal
journal_is s t (reply.Lost n count pts duration) a = a.journal
journal_is s t (reply.Request n i) a = a.journal
journal_is s t reply.End a = a.journal
journal_is s t (reply.Idle w) a = a.journal ∙ sym (append-nil s.journal.items)
journal_is s t reply.Flushing a = a.journal ∙ sym (append-nil s.journal.items)

told_is : (s t : Lane) (r : Turn) → TakesTurn s t r → t.progress.told ≡ (is_end r || s.progress.told)
told_is s t (reply.Packet n pts x) a = ap (λ (g : Progress). g.told) a.progress
told_is s t (reply.Lost n count pts duration) a = ap (λ (g : Progress). g.told) a.progress
told_is s t (reply.Request n i) a = ap (λ (g : Progress). g.told) a.progress
told_is s t reply.End a = ap (λ (g : Progress). g.told) a.progress
told_is s t (reply.Idle w) a = ap (λ (g : Progress). g.told) a.progress
told_is s t reply.Flushing a = ap (λ (g : Progress). g.told) a.progress

quiet_counts : (l : PlanLane) (g : Progress) (es : List Entry) (e : Entry) → Counts l g es → Counts l g es
quiet_counts l g es e c = c

rests_kept : (p : Plan) (s t : Lane) (r : Turn) → IsKept p s → Rests s t r → IsKept p t
rests_kept p s t r kept a =
    rw (a.number, a.progress, a.journal)
    (∥∥₁_map kept (λ k. record { in_order = k.in_order; stands = a.buffer (history p s) k.stands; settings = a.settings ∙ k.settings; counts = k.counts }))

takes_kept : (p : Plan) (s t : Lane) (r : Turn) → IsKept p s → TakesTurn s t r → IsKept p t
takes_kept p s t (reply.Packet n pts x) kept a =
    adds_kept p s t (Packet n pts x) _ kept a.number a.progress a.settings a.journal (λ k. (
      tt,
      record { given_long = k.counts.given_long; given_are = k.counts.given_are; controls_are = k.counts.controls_are; ended_long = k.counts.ended_long; ended_are = k.counts.ended_are; told_is = k.counts.told_is },
      a.buffer (history p s) k.stands,
    ))
takes_kept p s t (reply.Lost n count pts duration) kept a =
    adds_kept p s t (Lost n count pts duration) _ kept a.number a.progress a.settings a.journal (λ k. (
      tt,
      record { given_long = k.counts.given_long; given_are = k.counts.given_are; controls_are = k.counts.controls_are; ended_long = k.counts.ended_long; ended_are = k.counts.ended_are; told_is = k.counts.told_is },
      a.buffer (history p s) k.stands,
    ))
takes_kept p s t (reply.Request n i) kept a =
    adds_kept p s t (Request n i) _ kept a.number a.progress a.settings a.journal (λ k. (
      tt,
      record { given_long = k.counts.given_long; given_are = k.counts.given_are; controls_are = k.counts.controls_are; ended_long = k.counts.ended_long; ended_are = k.counts.ended_are; told_is = k.counts.told_is },
      a.buffer (history p s) k.stands,
    ))
takes_kept p s t reply.End kept a =
    adds_kept p s t End _ kept a.number a.progress a.settings a.journal (λ k. (
      tt,
      record { given_long = k.counts.given_long; given_are = k.counts.given_are; controls_are = k.counts.controls_are; ended_long = k.counts.ended_long; ended_are = k.counts.ended_are; told_is = refl },
      a.buffer (history p s) k.stands,
    ))
takes_kept p s t (reply.Idle w) kept a = rests_kept p s t _ kept a
takes_kept p s t reply.Flushing kept a = rests_kept p s t _ kept a

pub turn_kept : (p : Plan) (s t : Lane) (n : Next) → IsKept p s → TurnDoes s t n → IsKept p t
turn_kept p s t n kept (inl (off, is, e)) = same_kept p s t kept e
turn_kept p s t n kept (inr (on, (r, is, a))) = takes_kept p s t r kept a

pub turn_added : (p : Plan) (s t : Lane) (n : Next) → Knows p s → TurnDoes s t n → t.journal.items ≡ s.journal.items ++ turned p s
turn_added p s t n k (inl (off, is, e)) = rw off (e.journal ∙ sym (append-nil s.journal.items))
turn_added p s t n k (inr (on, (r, is, a))) = rw (on, ← reply_is p s t r k a) (journal_is s t r a)

pub turn_value : (p : Plan) (s t : Lane) (n : Next) → Knows p s → TurnDoes s t n → n ≡ answer p s
turn_value p s t n k (inl (off, is, e)) = rw off is
turn_value p s t n k (inr (on, (r, is, a))) = rw (on, ← reply_is p s t r k a, ← k.counts.told_is) (is ∙ ap (λ (b : Bool). next_after b r) (told_is s t r a))

-- ---- results

pub ok1 : {A E : Type 0} {P S : A → Type 0} (res : Result A E) → IfOk res P → ((x : A) → P x → S x) → IfOk res S
ok1 (Ok x) p f = f x p
ok1 (Err e) p f = tt

pub ok3 : {A E : Type 0} {P Q R S : A → Type 0} (res : Result A E) → IfOk res P → IfOk res Q → IfOk res R → ((x : A) → P x → Q x → R x → S x) → IfOk res S
ok3 (Ok x) p q r f = f x p q r
ok3 (Err e) p q r f = tt

-- what a call came to, with its value or without
pub settle : {A E R Q : Type 0} {P : A → Type 0} (res : Result A E) → IfOk res P → OnErr res Q → ((x : A) → P x → R) → (Q → R) → R
settle (Ok x) p q f g = f x p
settle (Err e) p q f g = g q

pub settle3 : {A E R Q : Type 0} {P S T : A → Type 0} (res : Result A E) → IfOk res P → IfOk res S → IfOk res T → OnErr res Q → ((x : A) → P x → S x → T x → R) → (Q → R) → R
settle3 (Ok x) p s t q f g = f x p s t
settle3 (Err e) p s t q f g = g q
