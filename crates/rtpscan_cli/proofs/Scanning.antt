-- A scan's records, one by one.
use Rattle.std.proofs.Common.{◌≡◌, ℕ, Bool, List, [], ◌∷◌, ◌++◌, map, Option, Result, Ok, Err, refl}
use Rattle.std.proofs.Common.{sym, ap, subst, ◌∙◌, ◌≤◌, arith}
use Rattle.std.specs.Prelude.{reverse}
use Rattle.std.proofs.lemmas.List.{map-append, reverse-append}
use Rattle.rtp_io.specs.Outside.{Adds, AddsFront}
use Rattle.rtp_io.specs.Laws.{front_of}
use Rattle.pcap_file.specs.Capture.{Record}
use Rattle.timeline.specs.Times.{Timed, at_times, time_after, timed_after}
use Rattle.command_core.specs.declared.stop.Stop.{Stop}
use Rattle.command_core.specs.Output.{GoesOn, Starts}
use Rattle.command_core.specs.Steps.{Prints, Writes}
use Rattle.command_core.specs.Takes.{Takes, Finishes, Wrote}
use Rattle.command_core.specs.Laws.{prints_write, times_next}
use Rattle.rtp_scan.specs.declared.sight.Sight.{Sight}
use Rattle.rtp_scan.specs.Sights.{sight_of, sights_of}
use Rattle.rtp_scan.specs.Streams.{Found, found_in, left_out_of}
use Rattle.rtp_scan.specs.Report.{report_text}
use Rattle.rtpscan_cli.specs.Scanned.{scan_output}

pub nothing_yet : (script_only : Bool) → GoesOn (scan_output script_only)
nothing_yet script_only = record {
  none = refl;
  part = λ seen more. record { more = []; is = refl };
  whole = λ seen more. record { more = (scan_output script_only).whole (seen ++ more); is = refl };
}

-- before any record
pub none_left : (scan : Found) → scan ≡ found_in [] → scan.left_out ≤ 0
unfolding found_in left_out_of
none_left scan is = let none : scan.left_out ≡ 0 = ap (λ (f : Found). f.left_out) is in omega arith

pub none_seen : (scan : Found) → scan ≡ found_in [] → scan ≡ found_in (sights_of [])
unfolding sights_of
none_seen scan is = is

sights_next : (seen : List Record) (r : Record) → sights_of (seen ++ r ∷ [])
    ≡ sight_of (timed_after seen r) ∷ sights_of seen
unfolding sights_of
sights_next seen r =
    ap (λ (l : List Timed). reverse (map sight_of l)) (times_next seen r)
    ∙ ap (λ (l : List Sight). reverse l)
    (map-append sight_of (at_times seen) (timed_after seen r ∷ []))
    ∙ reverse-append (map sight_of (at_times seen)) (sight_of (timed_after seen r) ∷ [])

-- what a scan stands for with a record more
stands_next : (scan scan' : Found) (s : Sight) (time : ℕ) (r : Record) (seen : List Record) → s
    ≡ sight_of (record { time = time; captured = r })
    → ((before : List Sight) → scan ≡ found_in before → scan' ≡ found_in (s ∷ before)) → time
    ≡ time_after (seen ++ r ∷ []) → scan ≡ found_in (sights_of seen) → scan'
    ≡ found_in (sights_of (seen ++ r ∷ []))
stands_next scan scan' s time r seen is next at stands =
    let same : s ∷ sights_of seen ≡ sights_of (seen ++ r ∷ []) =
    ap (λ (x : Sight). x ∷ sights_of seen) (is
    ∙ ap (λ (t : ℕ). sight_of (record { time = t; captured = r })) at) ∙ sym (sights_next seen r) in
    next (sights_of seen) stands ∙ ap found_in same

-- a record was noted
pub noted : (scan scan' : Found) (s : Sight) (time : ℕ) (r : Record) (now : Option (List ℕ)) → s
    ≡ sight_of (record { time = time; captured = r })
    → ((before : List Sight) → scan ≡ found_in before → scan' ≡ found_in (s ∷ before))
    → Takes (Ok tt) (λ records. []) time r (λ seen. scan ≡ found_in (sights_of seen)) (λ seen. scan'
    ≡ found_in (sights_of seen)) now now
noted scan scan' s time r now is next = λ seen start at wrote.
    record {
      stands = stands_next scan scan' s time r seen is next at wrote.stands;
      written =
          wrote.written;
    }

-- it was not, for want of memory
pub not_noted : (why : Stop) (time : ℕ) (r : Record) (Before After : List Record → Type 0)
    (now : Option (List ℕ)) → Takes (Err why) (λ records. []) time r Before After now now
not_noted why time r Before After now =
    λ seen start at wrote. front_of [] [] start now wrote.written

-- all of it was written or not
pub told_all : (script_only : Bool) (scan : Found) (text : List ℕ) (result : Result (Unit {0}) Stop)
    (old new : Option (List ℕ)) (o o' : ℕ) → text ≡ report_text script_only scan
    → Prints text result old new o o'
    → Finishes result (scan_output script_only) (λ seen. scan ≡ found_in (sights_of seen)) old new
told_all script_only scan text result old new o o' is prints = λ seen start wrote.
    prints_write [] text ((scan_output script_only).whole seen) result start old new o o'
    (sym (is ∙ ap (report_text script_only) wrote.stands)) wrote.written prints

pub told_none : (script_only : Bool) (scan : Found) (why : Stop) (now : Option (List ℕ))
    → Finishes (Err why) (scan_output script_only) (λ seen. scan ≡ found_in (sights_of seen)) now
    now
told_none script_only scan why now =
    λ seen start wrote. front_of [] ((scan_output script_only).whole seen) start now wrote.written
