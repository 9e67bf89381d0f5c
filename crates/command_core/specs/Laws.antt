-- Laws of what a command writes and of the times of records, for the proofs of the commands.
use Rattle.std.specs.Prelude.{◌≡◌, ℕ, List, [], ◌∷◌, ◌++◌, Option, Result, Ok, Err, take}
use Rattle.std.proofs.Common.{sym, ap, subst, ◌∙◌}
use Rattle.std.proofs.lemmas.List.{append_assoc, append-nil}
use Rattle.rtp_io.specs.Outside.{Adds, AddsFront}
use Rattle.rtp_io.specs.Laws.{adds_none, adds_then, adds_same, front_then}
use Rattle.pcap_file.specs.Capture.{Record}
use Rattle.timeline.specs.Times.{Timed, at_times, at_times_after, timed_after}
use Rattle.command_core.specs.declared.stop.Stop.{Stop}
use Rattle.command_core.specs.declared.stop.Stop.TheVariants as stop
use Rattle.command_core.specs.Steps.{HasWriteCause, Prints, Writes}
use Rattle.command_core.specs.Taken.{AddsMore}

-- ---- what was written

-- a front of these bytes is one of these and more
pub front_more : (p q : List ℕ) (a b : Option (List ℕ))
    → AddsFront p a b → AddsFront (p ++ q) a b
front_more p q a b f = front_then [] p q a a b (adds_none a) f

-- what is added to nothing and then to more
pub more_none : (a : Option (List ℕ)) → AddsMore [] a a
more_none a = ([], adds_none a)

pub more_then : (a b c : Option (List ℕ)) → AddsMore [] a b → AddsMore [] b c → AddsMore [] a c
more_then a b c first second =
    (first.0 ++ second.0, adds_then first.0 second.0 a b c first.1 second.1)

pub prints_more : (bytes : List ℕ) (result : Result (Unit {0}) Stop) (old new : Option (List ℕ))
    (o o' : ℕ) → Prints bytes result old new o o' → AddsMore [] old new
prints_more bytes (Ok x) old new o o' h = (bytes, h.0)
prints_more bytes (Err stop.Write) old new o o' h = (take h.0.0 bytes, h.0.2)
prints_more bytes (Err stop.Memory) old new o o' h = (take h.0.0 bytes, h.0.2)
prints_more bytes (Err stop.Usage) old new o o' h = absurd h
prints_more bytes (Err (stop.Script line cause)) old new o o' h = absurd h
prints_more bytes (Err stop.Read) old new o o' h = absurd h
prints_more bytes (Err (stop.Capture fault)) old new o o' h = absurd h

-- printing all of these bytes behind others
pub prints_write : (p bytes whole : List ℕ) (result : Result (Unit {0}) Stop)
    (old new new' : Option (List ℕ)) (o o' : ℕ) → whole ≡ p ++ bytes → Adds p old new
    → Prints bytes result new new' o o' → Writes result whole old new'
prints_write p bytes whole (Ok x) old new new' o o' is w h =
    adds_same (p ++ bytes) whole old new' (sym is) (adds_then p bytes old new new' w h.0)
prints_write p bytes whole (Err why) old new new' o o' is w h =
    let all : whole ≡ p ++ (bytes ++ []) =
    is ∙ ap (λ (l : List ℕ). p ++ l) (sym (append-nil bytes)) in
    subst (λ (l : List ℕ). AddsFront l old new') (sym all)
    (front_then p bytes [] old new new' w (at why h))
  where
    at : (why : Stop) → Prints bytes (Err why) new new' o o' → AddsFront bytes new new'
    at stop.Write h = h.0
    at stop.Memory h = h.0
    at stop.Usage h = absurd h
    at (stop.Script line cause) h = absurd h
    at stop.Read h = absurd h
    at (stop.Capture fault) h = absurd h

pub prints_cause : (bytes : List ℕ) (result : Result (Unit {0}) Stop) (old new : Option (List ℕ))
    (o o' : ℕ) → Prints bytes result old new o o' → HasWriteCause result o o'
prints_cause bytes (Ok x) old new o o' h = h.1
prints_cause bytes (Err stop.Write) old new o o' h = h.1
prints_cause bytes (Err stop.Memory) old new o o' h = h.1
prints_cause bytes (Err stop.Usage) old new o o' h = absurd h
prints_cause bytes (Err (stop.Script line cause)) old new o o' h = absurd h
prints_cause bytes (Err stop.Read) old new o o' h = absurd h
prints_cause bytes (Err (stop.Capture fault)) old new o o' h = absurd h

-- ---- the times of records

-- the times of more records
pub times_onto : (before xs ys : List Record)
    → at_times_after before (xs ++ ys)
    ≡ at_times_after before xs ++ at_times_after (before ++ xs) ys
times_onto before [] ys = ap (λ (l : List Record). at_times_after l ys) (sym (append-nil before))
times_onto before (x ∷ xs) ys =
    let here : List Record = before ++ x ∷ [] in
    let first : List Timed = at_times_after here xs in
    ap (λ (ts : List Timed). timed_after before x ∷ ts)
    (times_onto here xs ys
    ∙ ap (λ (l : List Record). first ++ at_times_after l ys) (append_assoc before (x ∷ []) xs))

-- and of one record more
pub times_next : (seen : List Record) (r : Record)
    → at_times (seen ++ r ∷ []) ≡ at_times seen ++ timed_after seen r ∷ []
times_next seen r = times_onto [] seen (r ∷ [])
