-- Lanes stay as they are.
use Rattle.std.proofs.Common.{ℕ, zero, suc, ◌+◌, ◌≡◌, sym, subst, Bool, true, false, List, [], ◌∷◌, ◌++◌, Option, None, Some}
use Rattle.std.specs.Prelude.{if◌then◌else◌, take, reverse, filter_map}
use Rattle.std.specs.List.{cons_option}
use Rattle.rtp_demux.specs.Lanes.{Stream, Sight, is_stream, rate_of, seen_next, first_sights, found_from}
use Rattle.script_lang.specs.Contents.{Contents}
use Rattle.front_model.specs.Events.{FrontEvent}
use Rattle.front_model.specs.Moves.{Move, moves, moves_of}
use Rattle.front_model.specs.Lanes.{lanes, sight_of}

-- an entry is none
abbrev IsThere : Option (ℕ × ℕ) → Type 0
IsThere None = ⊥
IsThere (Some e) = Unit {0}

either : (b : Bool) (o p : Option (ℕ × ℕ)) (s : Option (ℕ × ℕ)) (e : ℕ × ℕ) → (o ≡ Some e → p ≡ Some e) → (if b then s else o) ≡ Some e → (if b then s else p) ≡ Some e
either true o p s e f h = h
either false o p s e f h = f h

found_longer : (k n : ℕ) (stream : Stream) (xs ys : List Sight) (e : ℕ × ℕ) → found_from n stream (take k xs) ≡ Some e → found_from n stream (take k (xs ++ ys)) ≡ Some e
found_longer zero n stream xs ys e h = h
found_longer (suc k) n stream [] ys e h = absurd (subst IsThere (sym h) tt)
found_longer (suc k) n stream (x ∷ xs) ys e h =
    either (is_stream stream x.0) (found_from (n + 1) stream (take k xs)) (found_from (n + 1) stream (take k (xs ++ ys))) (Some (n, x.1)) e
    (found_longer k (n + 1) stream xs ys e) h

seen_longer : (sights : List Sight) (s : Sight) (o : Option ℕ) (stream : Stream) (e : ℕ × ℕ) → found_from 0 stream (take 64 sights) ≡ Some e → found_from 0 stream (take 64 (seen_next sights s o)) ≡ Some e
seen_longer sights s None stream e h = found_longer 64 0 stream sights (s ∷ []) e h
seen_longer sights s (Some rate) stream e h = h

sight_longer : (sights : List Sight) (o : Option Sight) (stream : Stream) (e : ℕ × ℕ) → found_from 0 stream (take 64 (first_sights sights)) ≡ Some e → found_from 0 stream (take 64 (first_sights (cons_option o sights))) ≡ Some e
sight_longer sights None stream e h = h
sight_longer sights (Some s) stream e h = seen_longer (first_sights sights) s (rate_of (first_sights sights) s.0) stream e h

pub stays : (c : Contents) (newer older : List Move) (stream : Stream) (e : ℕ × ℕ) → found_from 0 stream (lanes c older) ≡ Some e → found_from 0 stream (lanes c (newer ++ older)) ≡ Some e
stays c [] older stream e h = h
stays c (m ∷ newer) older stream e h = sight_longer (filter_map (sight_of c) (newer ++ older)) (sight_of c m) stream e (stays c newer older stream e h)

pub stays_at : (c : Contents) (newer older : List FrontEvent) (stream : Stream) (e : ℕ × ℕ) → found_from 0 stream (lanes c (moves c older)) ≡ Some e → found_from 0 stream (lanes c (moves c (newer ++ older))) ≡ Some e
stays_at c [] older stream e h = h
stays_at c (x ∷ newer) older stream e h = stays c (reverse (moves_of c (newer ++ older) x)) (moves c (newer ++ older)) stream e (stays_at c newer older stream e h)
