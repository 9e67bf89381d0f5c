-- A retransmission's original is of a session that an `rtx` line of its own session names.
use Rattle.std.proofs.Common.{ℕ, ◌≡◌, ◌&&◌, Bool, true, false, cond, refl, sym, ap, subst, List, [], ◌∷◌, length, Option, Some, None, Result, Ok, Err, nat_eq, nat_lt, find}
use Rattle.std.specs.Prelude.{◌==◌, ◌||◌, if◌then◌else◌}
use Rattle.std.specs.List.{list_any}
use Rattle.std.proofs.lemmas.Bool.{and_parts}
use Rattle.std.proofs.lemmas.Grind.{common_steps}
use Rattle.std.proofs.Common.{arith}
use Rattle.rtp_units.specs.declared.shared.RtxLine.{RtxLine}
use Rattle.rtp_wire.specs.Packet.{Packet as View}
use Rattle.rtp_wire.specs.Network.{number16}
use Rattle.rtx.specs.declared.receiver.Original.{Original}
use Rattle.rtx.specs.declared.answers.RtxFault.{RtxFault}
use Rattle.rtx.specs.declared.answers.RtxFault.TheVariants as fault
use Rattle.rtx.specs.Pairs.{carries}
use Rattle.rtx.specs.Requests.{oldest, oldest_other}
use Rattle.rtx.specs.Restoring.{original as carried, Receiving, stream_of, by_only_request, by_oldest_request, by_stream, by_line, found}
use Rattle.script_lang.specs.Contents.{Contents}
use Rattle.front_model.specs.Moves.{Move}
use Rattle.front_model.specs.Restoring.{receiver, calls, original}
use Rattle.front_model.specs.Steps.{repeats_for}

-- ---- by a line

abbrev answer : Original → Result Original RtxFault
answer x = Ok x

same_original : (x o : Original) → answer x ≡ answer o → o ≡ x
same_original x o e = cc

only_session : (l : RtxLine) (p : View) (o : Original) (first : ℕ) (other : Option ℕ) → by_only_request l p first other ≡ Ok o → o.session ≡ l.osession
only_session l p o first None e = ap (λ (x : Original). x.session) (same_original (carried l p first true) o e)
only_session l p o first (Some second) e = absurd cc

oldest_session : (r : Receiving) (session : ℕ) (l : RtxLine) (p : View) (o : Original) (first : Option ℕ) → by_oldest_request r session l p first ≡ Ok o → o.session ≡ l.osession
oldest_session r session l p o None e = absurd cc
oldest_session r session l p o (Some first) e = only_session l p o first (oldest_other r.requests session (number16 p.payload 0) first) e

stream_session : (r : Receiving) (session : ℕ) (l : RtxLine) (p : View) (o : Original) (stream : Option ℕ) → by_stream r session l p stream ≡ Ok o → o.session ≡ l.osession
stream_session r session l p o (Some ssrc) e = ap (λ (x : Original). x.session) (same_original (carried l p ssrc false) o e)
stream_session r session l p o None e = by r.setting.by_request e
  where
    by : (b : Bool) → (if b then by_oldest_request r session l p (oldest r.requests session (number16 p.payload 0)) else Err fault.UnknownSsrc) ≡ Ok o → o.session ≡ l.osession
    by true e = oldest_session r session l p o (oldest r.requests session (number16 p.payload 0)) e
    by false e = absurd cc

-- ---- by all lines

abbrev repeats_of : ℕ → ℕ → RtxLine → Bool
repeats_of session other l = l.session == session && l.osession == other

line_repeats : (session pt : ℕ) (l : RtxLine) → carries session pt l ≡ true → repeats_of session l.osession l ≡ true
line_repeats session pt l h = let both = and_parts (nat_eq l.session session) (nat_eq l.pt pt) h in rw (both.0, same l.osession) refl
  where
    same : (n : ℕ) → (n == n) ≡ true
    same n = grind (arith, common_steps)

-- the line that is found is one
found_repeats : (session pt : ℕ) (ls : List RtxLine) (l : RtxLine) → find (carries session pt) ls ≡ Some l → list_any (repeats_of session l.osession) ls ≡ true
found_repeats session pt [] l e = absurd cc
found_repeats session pt (x ∷ xs) l e = by (carries session pt x) refl (found_repeats session pt xs l) e
  where
    or_true : (b : Bool) → (b || true) ≡ true
    or_true true = refl
    or_true false = refl

    by : (b : Bool) → carries session pt x ≡ b → (find (carries session pt) xs ≡ Some l → list_any (repeats_of session l.osession) xs ≡ true) → cond b (Some x) (find (carries session pt) xs) ≡ Some l → list_any (repeats_of session l.osession) (x ∷ xs) ≡ true
    by true is rest e =
        let same : x ≡ l = cc in
        let here : repeats_of session l.osession x ≡ true = subst (λ (y : RtxLine). repeats_of session y.osession x ≡ true) same (line_repeats session pt x is) in
        rw here refl
    by false is rest e = rw (rest e) (or_true (repeats_of session l.osession x))

line_session : (r : Receiving) (session : ℕ) (p : View) (o : Original) (line : Option RtxLine) → find (carries session p.pt) r.setting.lines ≡ line → by_line r session p line ≡ Ok o → list_any (repeats_of session o.session) r.setting.lines ≡ true
line_session r session p o None found e = absurd cc
line_session r session p o (Some l) found e =
    let same : o.session ≡ l.osession = stream_session r session l p o (stream_of r l p.ssrc) e in
    subst (λ (n : ℕ). list_any (repeats_of session n) r.setting.lines ≡ true) (sym same) (found_repeats session p.pt r.setting.lines l found)

found_session : (r : Receiving) (session : ℕ) (p : View) (o : Original) → found r session p ≡ Ok o → list_any (repeats_of session o.session) r.setting.lines ≡ true
found_session r session p o e = by (nat_lt (length p.payload) 2) e
  where
    by : (b : Bool) → (if b then Err fault.Short else by_line r session p (find (carries session p.pt) r.setting.lines)) ≡ Ok o → list_any (repeats_of session o.session) r.setting.lines ≡ true
    by true e = absurd cc
    by false e = line_session r session p o (find (carries session p.pt) r.setting.lines) refl e

pub original_repeats : (c : Contents) (older : List Move) (session : ℕ) (p : View) (o : Original) → original c older session p ≡ Ok o → repeats_for c o.session session ≡ true
original_repeats c older session p o e = found_session (receiver c (calls c older)) session p o e
