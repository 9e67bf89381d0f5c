-- What a script chooses for its lanes: who gives to them, and what its items do to them.
use Rattle.std.proofs.Common.{ℕ, zero, suc, ◌≡◌, ◌+◌, ◌*◌, ◌≤◌, ◌<◌, ◌^◌, Bool, true, false, refl, sym, ap, ◌∙◌, List, [], ◌∷◌, ◌++◌, arith}
use Rattle.std.specs.Prelude.{◌==◌, ◌&&◌, ◌||◌, ◌/◌, ◌%◌, not, fold, flat_map, map, if◌then◌else◌}
use Rattle.std.specs.List.{AllByRecursion, list_all}
use Rattle.std.proofs.lemmas.Bool.{and_parts}
use Rattle.std.proofs.lemmas.Grind.{common_steps}
use Rattle.jitter_model.specs.History.{is_pusher}
use Rattle.script_lang.specs.Contents.{Contents, IsScript, flushing_by, flushes_behind}
use Rattle.script_lang.specs.Facts.{session_numbers}
use Rattle.script_lang.specs.declared.script.Item.{Item}
use Rattle.script_lang.specs.declared.script.Action.{Action}
use Rattle.script_lang.specs.declared.script.Action.TheVariants as action
use Rattle.front_model.specs.Steps.{repeats_for, pusher_bit, pushers}
use Rattle.replay_model.specs.Inputs.{Input, OfScript}
use Rattle.replay_model.specs.Fitting.{IsAction, IsItem, IsInput}
use Rattle.live_bin.specs.declared.plan.ControlEvent.{ControlEvent}
use Rattle.live_bin.specs.declared.plan.ControlEvent.TheVariants.{Clock, FlushStart, FlushStop, Latency}
use Rattle.live_bin.specs.Plans.{IsEvent, AreEvents, flushes_after}
use Rattle.live_plan.specs.Controls.{clocked, events_by, events_of}

-- ---- pushers

abbrev bit : Bool → ℕ
bit true = 1
bit false = 0

abbrev gives : Contents → ℕ → ℕ → Bool
gives c session other = other == session || repeats_for c session other

bit_small : (b : Bool) → bit b ≤ 1
bit_small true = omega arith
bit_small false = omega arith

bit_is : (c : Contents) (session other : ℕ) → pusher_bit c session other ≡ 2 ^ other * bit (gives c session other)
bit_is c session other = by_two (other == session) (repeats_for c session other) (2 ^ other)
  where
    by_two : (a b : Bool) (n : ℕ) → (if a then n else if b then n else 0) ≡ n * bit (a || b)
    by_two true b n = omega arith
    by_two false true n = omega arith
    by_two false false n = omega arith

-- eight bits and the script's
abbrev sum_of : (ℕ → ℕ) → ℕ
sum_of y = 1 * y 0 + 2 * y 1 + 4 * y 2 + 8 * y 3 + 16 * y 4 + 32 * y 5 + 64 * y 6 + 128 * y 7 + 256

pushers_are : (c : Contents) (session : ℕ) → pushers c session ≡ sum_of (λ k. bit (gives c session k))
pushers_are c session =
    omega (arith, bit_is c session 0, bit_is c session 1, bit_is c session 2, bit_is c session 3, bit_is c session 4, bit_is c session 5, bit_is c session 6, bit_is c session 7)

one_of : (y : ℕ → ℕ) (p : ℕ) → ((k : ℕ) → y k ≤ 1) → p < 8 → y p ≡ 1 → sum_of y / 2 ^ p % 2 ≡ 1
one_of y zero small lt is = omega (arith, small 0, small 1, small 2, small 3, small 4, small 5, small 6, small 7, is)
one_of y (suc zero) small lt is = omega (arith, small 0, small 1, small 2, small 3, small 4, small 5, small 6, small 7, is)
one_of y (suc (suc zero)) small lt is = omega (arith, small 0, small 1, small 2, small 3, small 4, small 5, small 6, small 7, is)
one_of y (suc (suc (suc zero))) small lt is = omega (arith, small 0, small 1, small 2, small 3, small 4, small 5, small 6, small 7, is)
one_of y (suc (suc (suc (suc zero)))) small lt is = omega (arith, small 0, small 1, small 2, small 3, small 4, small 5, small 6, small 7, is)
one_of y (suc (suc (suc (suc (suc zero))))) small lt is = omega (arith, small 0, small 1, small 2, small 3, small 4, small 5, small 6, small 7, is)
one_of y (suc (suc (suc (suc (suc (suc zero)))))) small lt is = omega (arith, small 0, small 1, small 2, small 3, small 4, small 5, small 6, small 7, is)
one_of y (suc (suc (suc (suc (suc (suc (suc zero))))))) small lt is = omega (arith, small 0, small 1, small 2, small 3, small 4, small 5, small 6, small 7, is)
one_of y (suc (suc (suc (suc (suc (suc (suc (suc n)))))))) small lt is = absurd (omega arith)

the_ninth : (y : ℕ → ℕ) → ((k : ℕ) → y k ≤ 1) → sum_of y / 2 ^ 8 % 2 ≡ 1
the_ninth y small = omega (arith, small 0, small 1, small 2, small 3, small 4, small 5, small 6, small 7)

eq_true : (n : ℕ) → n ≡ 1 → (n == 1) ≡ true
eq_true n e = grind (arith, common_steps)

-- a session gives to its own lanes
pub own_pushes : (c : Contents) (session : ℕ) → session < 8 → is_pusher (pushers c session) session ≡ true
own_pushes c session lt =
    eq_true (pushers c session / 2 ^ session % 2)
    (ap (λ (n : ℕ). n / 2 ^ session % 2) (pushers_are c session)
    ∙ one_of (λ k. bit (gives c session k)) session (λ k. bit_small (gives c session k)) lt (ap (λ (b : Bool). bit (b || repeats_for c session session)) (same session)))
  where
    same : (n : ℕ) → (n == n) ≡ true
    same n = grind (arith, common_steps)

-- and so does the script
pub script_pushes : (c : Contents) (session : ℕ) → is_pusher (pushers c session) 8 ≡ true
script_pushes c session =
    eq_true (pushers c session / 2 ^ 8 % 2)
    (ap (λ (n : ℕ). n / 2 ^ 8 % 2) (pushers_are c session) ∙ the_ninth (λ k. bit (gives c session k)) (λ k. bit_small (gives c session k)))

-- ---- events

pub given_items : (is : List Item) → AllByRecursion IsInput (map OfScript is) → AllByRecursion IsItem is
given_items [] h = tt
given_items (i ∷ is) h = (h.0, given_items is h.1)

both_events : (xs ys : List ControlEvent) → AreEvents xs → AreEvents ys → AreEvents (xs ++ ys)
both_events [] ys f g = g
both_events (x ∷ xs) ys f g = (f.0, both_events xs ys f.1 g)

own_events : (b : Bool) (t : ℕ) (x : ControlEvent) → t < 2 ^ 63 → IsEvent x → AreEvents (if b then clocked t x else [])
own_events true t x early is = (omega (arith, early), (is, tt))
own_events false t x early is = tt

action_events : (session t : ℕ) (a : Action) → t < 2 ^ 63 → IsAction a → AreEvents (events_by session t a)
action_events session t action.Clock early is = (omega (arith, early), tt)
action_events session t (action.FlushStart of) early is = own_events (of == session) t FlushStart early tt
action_events session t (action.FlushStop of) early is = own_events (of == session) t FlushStop early tt
action_events session t (action.Latency of ns) early is = own_events (of == session) t (Latency ns) early is

-- what items do is in its ranges
pub events_right : (session : ℕ) (is : List Item) → AllByRecursion IsItem is → AreEvents (flat_map (events_of session) is)
events_right session [] h = tt
events_right session (i ∷ is) h =
    both_events (events_of session i) (flat_map (events_of session) is) (action_events session i.time i.action h.0.early h.0.action) (events_right session is h.1)

-- ---- flushes

flushes_then : (b : Bool) (xs ys : List ControlEvent) → flushes_after b (xs ++ ys) ≡ flushes_after (flushes_after b xs) ys
flushes_then b [] ys = refl
flushes_then b (Clock t ∷ xs) ys = flushes_then b xs ys
flushes_then b (FlushStart ∷ xs) ys = flushes_then true xs ys
flushes_then b (FlushStop ∷ xs) ys = flushes_then false xs ys
flushes_then b (Latency ns ∷ xs) ys = flushes_then b xs ys

action_flushes : (session t : ℕ) (b : Bool) (a : Action) → flushes_after b (events_by session t a) ≡ flushing_by session b (record { time = t; action = a })
action_flushes session t b action.Clock = refl
action_flushes session t b (action.FlushStart of) = by (of == session)
  where
    by : (k : Bool) → flushes_after b (if k then clocked t FlushStart else []) ≡ (if k then true else b)
    by true = refl
    by false = refl
action_flushes session t b (action.FlushStop of) = by (of == session)
  where
    by : (k : Bool) → flushes_after b (if k then clocked t FlushStop else []) ≡ (if k then false else b)
    by true = refl
    by false = refl
action_flushes session t b (action.Latency of ns) = by (of == session)
  where
    by : (k : Bool) → flushes_after b (if k then clocked t (Latency ns) else []) ≡ b
    by true = refl
    by false = refl

items_flush : (session : ℕ) (b : Bool) (is : List Item) → flushes_after b (flat_map (events_of session) is) ≡ fold (flushing_by session) b is
items_flush session b [] = refl
items_flush session b (i ∷ is) =
    flushes_then b (events_of session i) (flat_map (events_of session) is)
    ∙ ap (λ (k : Bool). flushes_after k (flat_map (events_of session) is)) (action_flushes session i.time b i.action)
    ∙ items_flush session (flushing_by session b i) is

-- what all sessions pass
each_session : (p : ℕ → Bool) → list_all p session_numbers ≡ true → (n : ℕ) → n < 8 → p n ≡ true
each_session p h n lt =
    let a = and_parts (p 0) _ h in
    let b = and_parts (p 1) _ a.1 in
    let c = and_parts (p 2) _ b.1 in
    let d = and_parts (p 3) _ c.1 in
    let e = and_parts (p 4) _ d.1 in
    let f = and_parts (p 5) _ e.1 in
    let g = and_parts (p 6) _ f.1 in
    let k = and_parts (p 7) _ g.1 in
    by n lt a.0 b.0 c.0 d.0 e.0 f.0 g.0 k.0
  where
    by : (n : ℕ) → n < 8 → p 0 ≡ true → p 1 ≡ true → p 2 ≡ true → p 3 ≡ true → p 4 ≡ true → p 5 ≡ true → p 6 ≡ true → p 7 ≡ true → p n ≡ true
    by zero lt a b c d e f g k = a
    by (suc zero) lt a b c d e f g k = b
    by (suc (suc zero)) lt a b c d e f g k = c
    by (suc (suc (suc zero))) lt a b c d e f g k = d
    by (suc (suc (suc (suc zero)))) lt a b c d e f g k = e
    by (suc (suc (suc (suc (suc zero))))) lt a b c d e f g k = f
    by (suc (suc (suc (suc (suc (suc zero)))))) lt a b c d e f g k = g
    by (suc (suc (suc (suc (suc (suc (suc zero))))))) lt a b c d e f g k = k
    by (suc (suc (suc (suc (suc (suc (suc (suc n)))))))) lt a b c d e f g k = absurd (omega arith)

not_true : (b : Bool) → not b ≡ true → b ≡ false
not_true true h = absurd cc
not_true false h = refl

-- no flush is left open
pub flushes_close : (c : Contents) (session : ℕ) → IsScript c → session < 8 → flushes_after false (flat_map (events_of session) c.items) ≡ false
flushes_close c session script lt =
    items_flush session false c.items
    ∙ not_true (flushes_behind c.items session) (each_session (λ s. not (flushes_behind c.items s)) script.closed session lt)
