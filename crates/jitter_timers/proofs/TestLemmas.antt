-- What the tests keep of a queue, call by call.
use Rattle.std.proofs.Common.{◌≡◌, ◌≢◌, ℕ, ◌%◌, ◌<◌, false, [], Option, Some, None, is_some, IsSome, refl, sym, ap, ◌∙◌, subst, inl, inr, arith}
use Rattle.std.specs.Prelude.{MatchOption}
use Rattle.std.specs.FinMap as map
use Rattle.std.specs.Ordering.{nat_cmp}
use Rattle.jitter_timers.specs.Timers.{Timers, queue, IsQueue, HasRoom}
use Rattle.jitter_timers.specs.Tests.{IsLow}
use Rattle.jitter_timers.proofs.Moves.{same_or_not}
use Rattle.jitter_timers.proofs.Times.{get-there, gone-here, gone-there}

held : (a b : Option ℕ) → a ≡ b → IsSome a → IsSome b
held a b e some = sym (ap is_some e) ∙ some

none : (a : Option ℕ) → a ≡ None → IsSome a → ⊥
none a e some = let no : is_some a ≡ false = ap is_some e in cc

pub low-insert : (q q' : Timers) (k v : ℕ) → IsQueue q' q.room (map.insert q.times k v) → IsLow q → k < 16 → IsLow q'
low-insert q q' k v is low less = subst IsLow (sym is) (record {
  room = low.room;
  low = λ other some. elim (same_or_not other k) [ inl same ↦ omega arith | inr ne ↦ low.low other (held _ _ (get-there q.times k other v ne) some) ];
})

pub low-remove : (q q' : Timers) (k : ℕ) → IsQueue q' q.room (map.remove q.times k) → IsLow q → IsLow q'
low-remove q q' k is low = subst IsLow (sym is) (record {
  room = low.room;
  low = λ other some. elim (same_or_not other k) [ inl same ↦ absurd (none _ (gone-here q.times k other same) some) | inr ne ↦ low.low other (held _ _ (gone-there q.times k other ne) some) ];
})

pub low-pop : (q q' : Timers) (first : Option (ℕ × ℕ)) → MatchOption first (q' ≡ q) (λ f. IsQueue q' q.room (map.remove q.times f.1)) → IsLow q → IsLow q'
low-pop q q' None is low = subst IsLow (sym is) low
low-pop q q' (Some f) is low = low-remove q q' f.1 is low

pub room-empty : (n x : ℕ) → HasRoom (queue n map.empty []) x
room-empty n x other some congruent = absurd (none _ (map.get-empty nat_cmp other) some)

pub room-insert : (q q' : Timers) (k v x : ℕ) → IsQueue q' q.room (map.insert q.times k v) → HasRoom q x → k % q.room ≢ x % q.room → HasRoom q' x
room-insert q q' k v x is room apart = subst (λ (p : Timers). HasRoom p x) (sym is) (λ other some congruent. elim (same_or_not other k) [
  | inl same ↦ absurd (apart (ap (λ n. n % q.room) (sym same) ∙ congruent))
  | inr ne ↦ room other (held _ _ (get-there q.times k other v ne) some) congruent
])

pub low-empty : IsLow (queue 16 map.empty [])
low-empty = record { room = refl; low = λ other some. absurd (none _ (map.get-empty nat_cmp other) some) }
