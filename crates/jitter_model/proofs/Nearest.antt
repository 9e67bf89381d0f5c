-- The number of a retransmission, and the room that numbers leave.
use Rattle.std.proofs.Common.{ℕ, ◌≡◌, ◌≤◌, ◌<◌, Bool, true, false, ◌&&◌, not, refl, ap, ◌∷◌, length, Option, None, Some, arith}
use Rattle.std.specs.Prelude.{is_some}
use Rattle.rtp_units.specs.Numbers.{ext16}
use Rattle.jitter_model.specs.declared.Settings.{Settings}
use Rattle.jitter_model.specs.declared.Arrival.{Arrival}
use Rattle.jitter_model.specs.declared.Origin.TheVariants.{Retransmission}
use Rattle.jitter_model.specs.declared.Verdict.TheVariants.{Accepted}
use Rattle.jitter_model.specs.declared.Entry.TheVariants.{Push}
use Rattle.jitter_model.specs.History.{History, pushes}
use Rattle.jitter_model.specs.Accepted.{top, least, number_from, is_original, accepted}
use Rattle.jitter_model.specs.Verdicts.{view}
use Rattle.jitter_model.specs.Runs.{Run}
use Rattle.jitter_model.specs.Laws.{IsNearest, IsNearestTo, HaveRoom}
use Rattle.jitter_model.proofs.Judged.{says}
use Rattle.jitter_model.proofs.Numbered.{tops, numbered, length-accepted, pushes_most}
use Rattle.jitter_model.specs.Said.{IsAccepted}
use Rattle.jitter_model.specs.Numbered.{AreTops}

nearest : (t seq n : ℕ) → 65536 ≤ t → seq < 65536 → n ≡ ext16 t seq → IsNearest t seq n
nearest t seq n from small is = record { value_is = is; congruent = omega arith; from = omega arith; to = omega arith }

not_stray : (o t : Bool) → o ≡ false → (not o && not t) ≡ false → t ≡ true
not_stray true t x e = cc
not_stray false true x e = refl
not_stray false false x e = cc

nearest_to : (count seq n : ℕ) (t l : Option ℕ) → AreTops count t l → is_some t ≡ true → seq < 65536 → n ≡ number_from t seq → IsNearestTo t seq n
nearest_to count seq n None l are some small is = cc
nearest_to count seq n (Some t) None are some small is = absurd are
nearest_to count seq n (Some t) (Some l) are some small is = nearest t seq n are.0.above small is

pub retransmission : (s : Settings) (h : History) (a : Arrival) (n d : ℕ) → Run s (Push a Accepted n d ∷ h) → a.origin ≡ Retransmission → IsNearestTo (top (accepted h)) a.packet.seq n
retransmission s h a n d r o =
    let x : IsAccepted s (view h a) a = says s h a Accepted r.0.verdict_is in
    let some : is_some (top (accepted h)) ≡ true = not_stray (is_original a.origin) (is_some (top (accepted h))) (ap is_original o) x.stray in
    nearest_to (length (accepted h)) a.packet.seq n (top (accepted h)) (least (accepted h)) (tops (accepted h) (numbered s h r.1)) some r.0.in_range.seq r.0.number_is

room : (count most : ℕ) (t l : Option ℕ) → count ≤ most → most ≤ 2147483648 → AreTops count t l → HaveRoom t l
room count most None None le few are = tt
room count most None (Some l) le few are = absurd are
room count most (Some t) None le few are = absurd are
room count most (Some t) (Some l) le few are = (are.0.above, omega (arith, are.0.below), are.2)

pub have_room : (s : Settings) (h : History) → Run s h → HaveRoom (top (accepted h)) (least (accepted h))
have_room s h r = room (length (accepted h)) (pushes h) (top (accepted h)) (least (accepted h)) (length-accepted h) (pushes_most s h r) (tops (accepted h) (numbered s h r))
