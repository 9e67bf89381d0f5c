-- Restoring, remembering and answering have one answer each.
use Rattle.std.proofs.Common.{ℕ, ◌≡◌, ◌⊎◌, inl, inr, refl, sym, ap, ◌∙◌, Bool, true, false, List, Option, None, Some}
use Rattle.std.specs.Prelude.{◌||◌, nat_lt, length, Result, Ok, Err}
use Rattle.std.proofs.lemmas.Bool.{lt-ltb, le-ltb}
use Rattle.rtp_wire.specs.Packet.{Packet}
use Rattle.rtx.specs.declared.receiver.Original.{Original}
use Rattle.rtx.specs.declared.outlet.Outlet.{Outlet}
use Rattle.rtx.specs.declared.answers.Restored.{Restored}
use Rattle.rtx.specs.declared.answers.Retransmission.{Retransmission}
use Rattle.rtx.specs.declared.answers.RtxFault.{RtxFault}
use Rattle.rtx.specs.declared.answers.RtxFault.TheVariants.{Short, UnknownPt, UnknownSsrc, Ambiguous, OutOfMemory}
use Rattle.rtx.specs.Restoring.{Receiving, found, Restores, IsRestored, restored_of, restored_next_by, restoring, restored_next, IsAnswer as IsRestoring, IsOneRestoring}
use Rattle.rtx.specs.Sending.{Stream, Setting, retransmission_spelling}
use Rattle.rtx.specs.Answering.{Call, is_remembered, streams_of, number_of, sought, IsRemembered, remembers, answered_by, IsOneRemembering, IsOneAnswer}

-- ---- restoring

restored_is : (o : Original) (p : Packet) (x : Restored) → IsRestored o p x → Ok x ≡ restored_of p (Ok o)
restored_is o p x h = λ i. Ok (record { session = h.session i; ssrc = h.ssrc i; seq = h.seq i; bytes = h.bytes i })

abbrev Says : Receiving → ℕ → Packet → Result Original RtxFault → Result Restored RtxFault → Receiving → Type 0
Says r session p f answer new = (answer ≡ restored_of p f) × (new ≡ restored_next_by r session p f)

by_found : (r new : Receiving) (session : ℕ) (p : Packet) (f : Result Original RtxFault) (answer : Result Restored RtxFault)
    → found r session p ≡ f → Says r session p f answer new → (answer ≡ restoring r session p) × (new ≡ restored_next r session p)
by_found r new session p f answer e h = (h.0 ∙ sym (ap (restored_of p) e), h.1 ∙ sym (ap (restored_next_by r session p) e))

pub one_restoring : IsOneRestoring
one_restoring r new session p (Ok x) (o, e, is, next) a = by_found r new session p (Ok o) (Ok x) e (restored_is o p x is, next)
one_restoring r new session p (Err Short) (e, next) a = by_found r new session p (Err Short) (Err Short) e (refl, next)
one_restoring r new session p (Err UnknownPt) (e, next) a = by_found r new session p (Err UnknownPt) (Err UnknownPt) e (refl, next)
one_restoring r new session p (Err UnknownSsrc) (e, next) a = by_found r new session p (Err UnknownSsrc) (Err UnknownSsrc) e (refl, next)
one_restoring r new session p (Err (Ambiguous first second)) (e, next) a =
    by_found r new session p (Err (Ambiguous first second)) (Err (Ambiguous first second)) e (refl, next)
one_restoring r new session p (Err OutOfMemory) h a = absurd a

-- ---- remembering

either : (a b : Bool) → (a ≡ true) ⊎ (b ≡ true) → true ≡ (a || b)
either a b (inl e) = rw e refl
either true b (inr e) = refl
either false b (inr e) = sym e

neither : (a b : Bool) → a ≡ false → b ≡ false → false ≡ (a || b)
neither a b e f = rw e (sym f)

pub one_remembering : IsOneRemembering
one_remembering calls stream true (inl e) = either (is_remembered calls stream) (nat_lt (length (streams_of calls)) 64) (inl e)
one_remembering calls stream true (inr lt) =
    either (is_remembered calls stream) (nat_lt (length (streams_of calls)) 64) (inr (lt-ltb (length (streams_of calls)) 64 lt))
one_remembering calls stream false (e, le) =
    neither (is_remembered calls stream) (nat_lt (length (streams_of calls)) 64) e (le-ltb (length (streams_of calls)) 64 le)

-- ---- answering

abbrev given : ℕ → List ℕ → Option Retransmission
given session bytes = Some (record { session = session; bytes = bytes })

pub one_answer : IsOneAnswer
one_answer s calls session ssrc seq None e = sym (ap (answered_by s calls) e)
one_answer s calls session ssrc seq (Some x) (p, o, e, same, bytes, packet) =
    let is : Some x ≡ given o.session (retransmission_spelling o (number_of s calls (o.session, o.ssrc)) p) = λ i. given (same i) (bytes i) in
    is ∙ sym (ap (answered_by s calls) e)
