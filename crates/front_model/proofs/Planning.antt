-- A capture by itself brings no request.
use Rattle.std.proofs.Common.{ℕ, ◌≡◌, refl, sym, subst, Bool, true, false, List, [], ◌∷◌, ◌++◌, None, Some}
use Rattle.std.specs.Prelude.{if◌then◌else◌, filter_map, map, reverse}
use Rattle.std.specs.List.{cons_option}
use Rattle.std.proofs.lemmas.List.{reverse-append}
use Rattle.rtp_wire.specs.Packet.{Packet as View}
use Rattle.rtx.specs.Restored.{Call, Restoring, noted, IsUnasked}
use Rattle.script_lang.specs.Contents.{Contents}
use Rattle.timeline.specs.Times.{Timed, at_times}
use Rattle.front_model.specs.Events.{FrontEvent, Came, ReportsDue, Requested}
use Rattle.front_model.specs.Given.{Rtp, Rtcp}
use Rattle.front_model.specs.Notes.{Note, Holds, Drops, Releases, NewName, Synced, Stray, Left, Gone, Says}
use Rattle.front_model.specs.Records.{Holding, Nothing, BadPacket, BadCompound, Packet, Compound, holding}
use Rattle.front_model.specs.Moves.{Move, Released, Reported, Asked, move_of, session_notes, moves_in, moves_of, moves}
use Rattle.front_model.specs.Types.{rate, is_rtx}
use Rattle.front_model.specs.Restoring.{calls}
use Rattle.front_model.specs.Plan.{coming, captured}
use Rattle.front_model.specs.Laws.{NeedNoRequests}

-- ---- no request among moves

abbrev AreQuiet : List Move → Type 0
AreQuiet [] = Unit {0}
AreQuiet (Released session stamp p ∷ more) = AreQuiet more
AreQuiet (Reported session ssrc ntp rtp ∷ more) = AreQuiet more
AreQuiet (Asked r ∷ more) = ⊥

quiet_both : (xs ys : List Move) → AreQuiet xs → AreQuiet ys → AreQuiet (xs ++ ys)
quiet_both [] ys q r = r
quiet_both (Released session stamp p ∷ xs) ys q r = quiet_both xs ys q r
quiet_both (Reported session ssrc ntp rtp ∷ xs) ys q r = quiet_both xs ys q r
quiet_both (Asked x ∷ xs) ys q r = absurd q

quiet_reverse : (ms : List Move) → AreQuiet ms → AreQuiet (reverse ms)
quiet_reverse [] q = tt
quiet_reverse (Released session stamp p ∷ ms) q =
    subst AreQuiet (sym (reverse-append (Released session stamp p ∷ []) ms)) (quiet_both (reverse ms) (Released session stamp p ∷ []) (quiet_reverse ms q) tt)
quiet_reverse (Reported session ssrc ntp rtp ∷ ms) q =
    subst AreQuiet (sym (reverse-append (Reported session ssrc ntp rtp ∷ []) ms)) (quiet_both (reverse ms) (Reported session ssrc ntp rtp ∷ []) (quiet_reverse ms q) tt)
quiet_reverse (Asked r ∷ ms) q = absurd q

quiet_notes : (session : ℕ) (ns : List Note) → AreQuiet (filter_map (move_of session) ns)
quiet_notes session [] = tt
quiet_notes session (Holds k ∷ more) = quiet_notes session more
quiet_notes session (Drops k why ∷ more) = quiet_notes session more
quiet_notes session (Releases k ∷ more) = quiet_notes session more
quiet_notes session (NewName ssrc name ∷ more) = quiet_notes session more
quiet_notes session (Synced ssrc ntp rtp ∷ more) = quiet_notes session more
quiet_notes session (Stray ssrc ∷ more) = quiet_notes session more
quiet_notes session (Left ssrc ∷ more) = quiet_notes session more
quiet_notes session (Gone ssrc ∷ more) = quiet_notes session more
quiet_notes session (Says bytes ∷ more) = quiet_notes session more

quiet_record : (c : Contents) (older : List FrontEvent) (time : ℕ) (h : Holding) → AreQuiet (moves_in c older time h)
quiet_record c older time (Nothing why) = tt
quiet_record c older time (BadPacket session fault) = tt
quiet_record c older time (BadCompound session fault) = tt
quiet_record c older time (Packet session from p) = quiet_notes session (session_notes c older session (Rtp time from p (rate c session p.pt)))
quiet_record c older time (Compound session packets) = quiet_notes session (session_notes c older session (Rtcp time packets))

-- ---- records and nothing else

abbrev AreRecords : List FrontEvent → Type 0
AreRecords [] = Unit {0}
AreRecords (Came time r ∷ older) = AreRecords older
AreRecords (ReportsDue time ∷ older) = ⊥
AreRecords (Requested r ∷ older) = ⊥

records_both : (xs ys : List FrontEvent) → AreRecords xs → AreRecords ys → AreRecords (xs ++ ys)
records_both [] ys q r = r
records_both (Came time x ∷ xs) ys q r = records_both xs ys q r
records_both (ReportsDue time ∷ xs) ys q r = absurd q
records_both (Requested x ∷ xs) ys q r = absurd q

records_reverse : (es : List FrontEvent) → AreRecords es → AreRecords (reverse es)
records_reverse [] q = tt
records_reverse (Came time r ∷ es) q = subst AreRecords (sym (reverse-append (Came time r ∷ []) es)) (records_both (reverse es) (Came time r ∷ []) (records_reverse es q) tt)
records_reverse (ReportsDue time ∷ es) q = absurd q
records_reverse (Requested r ∷ es) q = absurd q

all_come : (rs : List Timed) → AreRecords (map coming rs)
all_come [] = tt
all_come (r ∷ rs) = all_come rs

quiet : (c : Contents) (events : List FrontEvent) → AreRecords events → AreQuiet (moves c events)
quiet c [] h = tt
quiet c (Came time r ∷ older) h =
    quiet_both (reverse (moves_of c older (Came time r))) (moves c older)
    (quiet_reverse (moves_of c older (Came time r)) (quiet_record c older time (holding c.sessions r))) (quiet c older h)
quiet c (ReportsDue time ∷ older) h = absurd h
quiet c (Requested r ∷ older) h = absurd h

-- ---- nothing is noted

noted_if : (b : Bool) (session : ℕ) (p : View) (rest : List Call) → noted rest ≡ [] → noted (cons_option (if b then Some (Restoring session p) else None) rest) ≡ []
noted_if true session p rest e = e
noted_if false session p rest e = e

none_noted : (c : Contents) (ms : List Move) → AreQuiet ms → noted (calls c ms) ≡ []
none_noted c [] q = refl
none_noted c (Released session stamp p ∷ ms) q = noted_if (is_rtx c session p.pt) session p (calls c ms) (none_noted c ms q)
none_noted c (Reported session ssrc ntp rtp ∷ ms) q = none_noted c ms q
none_noted c (Asked r ∷ ms) q = absurd q

pub need_none : IsUnasked → NeedNoRequests
need_none unasked c records session p =
    sym (unasked c.rtx c.fids (calls c (moves c (captured records))) session p
    (none_noted c (moves c (captured records)) (quiet c (captured records) (records_reverse (map coming (at_times records)) (all_come (at_times records))))))
