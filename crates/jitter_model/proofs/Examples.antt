-- The definitions on examples that were worked out by hand. Times are in milliseconds where `ms` stands.
use Rattle.std.specs.Prelude.{ℕ, ◌*◌, ◌≡◌, true, false, [], ◌∷◌, Some, None, refl}
use Rattle.rtp_units.specs.declared.Mode.TheVariants.{Slave}
use Rattle.jitter_model.specs.declared.Settings.{Settings}
use Rattle.jitter_model.specs.declared.Verdict.TheVariants.{Accepted, Aside, Restart, Late, Duplicate, Full, Stray, Flushing}
use Rattle.jitter_model.specs.History.{pusher_count}
use Rattle.jitter_model.proofs.Played.{packet, retransmission, flush_start, flush_stop, set_latency, sender_report, tick, leap, played, begun, lines, outputs, out, lost, request, end, told, flush, sync}

abbrev ms : ℕ → ℕ
ms t = t * 1000000

-- the usual settings: a clock of 90 kHz and a latency of 100 ms, no requests
abbrev usual : Settings
usual =
    record {
      rate = 90000;
      mode = Slave;
      latency = 100000000;
      rtx = false;
      rtx_delay = 20000000;
      rtx_retry = 40000000;
      rtx_max = 3;
      reorder = 3;
      dropout = 3000;
      misorder = 100;
      faststart = 0;
      pushers = 257;
    }

-- three packets in order
in_order : outputs (played usual (packet 0 1 0 ∷ packet (ms 20) 2 1800 ∷ packet (ms 40) 3 3600 ∷ [])) ≡ out (ms 100) 65537 0 ∷ out (ms 100) 65538 (ms 20) ∷ out (ms 100) 65539 (ms 40) ∷ end (ms 100) ∷ []
unfolding pusher_count
in_order = refl

-- a loss is told at its deadline, and what was given out follows it at once
a_loss : outputs (played usual (packet 0 1 0 ∷ packet (ms 20) 2 1800 ∷ packet (ms 60) 4 5400 ∷ [])) ≡ out (ms 100) 65537 0 ∷ out (ms 100) 65538 (ms 20) ∷ lost (ms 140) 65539 1 (ms 40) (ms 20) ∷ out (ms 140) 65540 (ms 60) ∷ end (ms 140) ∷ []
unfolding pusher_count
a_loss = refl

-- the wake at the deadline comes before a packet of the same time, which is then late
a_late_one : lines (played usual (packet 0 1 0 ∷ packet (ms 20) 2 1800 ∷ packet (ms 60) 4 5400 ∷ packet (ms 140) 3 3600 ∷ [])) ≡ told 0 Accepted 65537 0 ∷ told (ms 20) Accepted 65538 0 ∷ told (ms 60) Accepted 65540 0 ∷ out (ms 100) 65537 0 ∷ out (ms 100) 65538 (ms 20) ∷ lost (ms 140) 65539 1 (ms 40) (ms 20) ∷ out (ms 140) 65540 (ms 60) ∷ told (ms 140) Late 65539 0 ∷ end (ms 140) ∷ []
unfolding pusher_count
a_late_one = refl

-- a packet of the next number is not late, also after the output began
on_time : lines (played usual (packet 0 1 0 ∷ packet (ms 20) 2 1800 ∷ packet (ms 110) 3 3600 ∷ [])) ≡ told 0 Accepted 65537 0 ∷ told (ms 20) Accepted 65538 0 ∷ out (ms 100) 65537 0 ∷ out (ms 100) 65538 (ms 20) ∷ told (ms 110) Accepted 65539 0 ∷ out (ms 110) 65539 (ms 40) ∷ end (ms 110) ∷ []
unfolding pusher_count
on_time = refl

-- the sequence numbers wrap
a_wrap : outputs (played usual (packet 0 65534 0 ∷ packet (ms 20) 65535 1800 ∷ packet (ms 40) 0 3600 ∷ packet (ms 60) 1 5400 ∷ [])) ≡ out (ms 100) 131070 0 ∷ out (ms 100) 131071 (ms 20) ∷ out (ms 100) 131072 (ms 40) ∷ out (ms 100) 131073 (ms 60) ∷ end (ms 100) ∷ []
unfolding pusher_count
a_wrap = refl

-- the first packet to come is not the first one: the output starts with the least number, at the time of the packet that came first, and the time of the other is held to 0
turned_round : outputs (played usual (packet 0 2 1800 ∷ packet (ms 10) 1 0 ∷ [])) ≡ out (ms 100) 65537 0 ∷ out (ms 100) 65538 0 ∷ end (ms 100) ∷ []
unfolding pusher_count
turned_round = refl

a_duplicate : lines (played usual (packet 0 5 0 ∷ packet (ms 5) 5 0 ∷ [])) ≡ told 0 Accepted 65541 0 ∷ told (ms 5) Duplicate 65541 0 ∷ out (ms 100) 65541 0 ∷ end (ms 100) ∷ []
unfolding pusher_count
a_duplicate = refl

-- the last packet comes 1 ms early: the skew moves by 400 ns
a_skew : outputs (played usual (packet 0 1 0 ∷ packet (ms 21) 2 1800 ∷ packet (ms 39) 3 3600 ∷ [])) ≡ out (ms 100) 65537 0 ∷ out (ms 100) 65538 (ms 20) ∷ out (ms 100) 65539 39999600 ∷ end (ms 100) ∷ []
unfolding pusher_count
a_skew = refl

-- five far packets in a row open a new segment with their own stamps
a_restart : lines (played usual (packet 0 10 0 ∷ packet (ms 10) 3011 900 ∷ packet (ms 12) 3012 1080 ∷ packet (ms 14) 3013 1260 ∷ packet (ms 16) 3014 1440 ∷ packet (ms 18) 3015 1620 ∷ [])) ≡ told 0 Accepted 65546 0 ∷ told (ms 10) Aside 68547 0 ∷ told (ms 12) Aside 68548 0 ∷ told (ms 14) Aside 68549 0 ∷ told (ms 16) Aside 68550 0 ∷ told (ms 18) (Restart 1) 68551 0 ∷ out (ms 110) 68547 (ms 10) ∷ out (ms 110) 68548 (ms 12) ∷ out (ms 110) 68549 (ms 14) ∷ out (ms 110) 68550 (ms 16) ∷ out (ms 110) 68551 (ms 18) ∷ end (ms 110) ∷ []
unfolding pusher_count
a_restart = refl

-- a packet 3000 above the greatest is not far, and the first number between them is expected after a 3000th of the time
not_far : outputs (begun usual (packet 0 10 0 ∷ packet (ms 10) 3010 900 ∷ tick 100003333 ∷ [])) ≡ out (ms 100) 65546 0 ∷ lost 100003333 65547 1 3333 3333 ∷ []
unfolding pusher_count
not_far = refl

-- a packet that is not far drops those that were put aside
an_unaside : lines (begun usual (packet 0 10 0 ∷ packet (ms 10) 3011 900 ∷ packet (ms 20) 11 1800 ∷ [])) ≡ told 0 Accepted 65546 0 ∷ told (ms 10) Aside 68547 0 ∷ told (ms 20) Accepted 65547 1 ∷ []
unfolding pusher_count
an_unaside = refl

-- a far packet that does not follow the run begins a new one
a_broken_run : lines (begun usual (packet 0 10 0 ∷ packet (ms 10) 3011 900 ∷ packet (ms 12) 3012 1080 ∷ packet (ms 14) 4000 1260 ∷ packet (ms 16) 3014 1440 ∷ [])) ≡ told 0 Accepted 65546 0 ∷ told (ms 10) Aside 68547 0 ∷ told (ms 12) Aside 68548 0 ∷ told (ms 14) Aside 69536 2 ∷ told (ms 16) Aside 68550 1 ∷ []
unfolding pusher_count
a_broken_run = refl

-- before the output began a packet 100 behind the greatest is not far, and one 101 behind it is
behind : lines (begun usual (packet 0 200 0 ∷ packet (ms 10) 100 0 ∷ packet (ms 12) 99 0 ∷ [])) ≡ told 0 Accepted 65736 0 ∷ told (ms 10) Accepted 65636 0 ∷ told (ms 12) Aside 65635 0 ∷ []
unfolding pusher_count
behind = refl

-- a retransmission fills its own number, once
a_retransmission : lines (played usual (packet 0 1 0 ∷ packet (ms 20) 2 1800 ∷ packet (ms 60) 4 5400 ∷ retransmission (ms 70) 3 3600 ∷ retransmission (ms 80) 3 3600 ∷ [])) ≡ told 0 Accepted 65537 0 ∷ told (ms 20) Accepted 65538 0 ∷ told (ms 60) Accepted 65540 0 ∷ told (ms 70) Accepted 65539 0 ∷ told (ms 80) Duplicate 65539 0 ∷ out (ms 100) 65537 0 ∷ out (ms 100) 65538 (ms 20) ∷ out (ms 100) 65539 (ms 40) ∷ out (ms 100) 65540 (ms 60) ∷ end (ms 100) ∷ []
unfolding pusher_count
a_retransmission = refl

-- a retransmission above all others is no height: it has no part in the skew, and the loss before it is expected at the last height's time
no_height : outputs (played usual (packet 0 1 0 ∷ packet (ms 20) 2 1800 ∷ retransmission (ms 30) 4 5400 ∷ [])) ≡ out (ms 100) 65537 0 ∷ out (ms 100) 65538 (ms 20) ∷ lost (ms 120) 65539 1 (ms 20) 0 ∷ out (ms 120) 65540 (ms 60) ∷ end (ms 120) ∷ []
unfolding pusher_count
no_height = refl

-- a flush drops what is held, refuses what comes, and leaves a segment in which nothing was accepted
a_flush : lines (played usual (packet 0 1 0 ∷ packet (ms 20) 2 1800 ∷ packet (ms 40) 3 3600 ∷ flush_start (ms 50) ∷ packet (ms 55) 4 4950 ∷ flush_stop (ms 60) ∷ packet (ms 70) 2 1800 ∷ packet (ms 90) 3 3600 ∷ [])) ≡ told 0 Accepted 65537 0 ∷ told (ms 20) Accepted 65538 0 ∷ told (ms 40) Accepted 65539 0 ∷ flush (ms 50) 3 ∷ told (ms 55) Flushing 0 0 ∷ told (ms 70) Accepted 65538 0 ∷ told (ms 90) Accepted 65539 0 ∷ out (ms 170) 65538 (ms 70) ∷ out (ms 170) 65539 (ms 90) ∷ end (ms 170) ∷ []
unfolding pusher_count
a_flush = refl

-- a flush that begins in a flush drops nothing more, and one that ends without a beginning changes nothing
two_flushes : lines (begun usual (packet 0 1 0 ∷ flush_stop (ms 1) ∷ packet (ms 2) 1 0 ∷ packet (ms 3) 9000 0 ∷ flush_start (ms 4) ∷ flush_start (ms 5) ∷ [])) ≡ told 0 Accepted 65537 0 ∷ told (ms 2) Duplicate 65537 0 ∷ told (ms 3) Aside 74536 0 ∷ flush (ms 4) 2 ∷ flush (ms 5) 0 ∷ []
unfolding pusher_count
two_flushes = refl

-- a retransmission needs an accepted packet before it
a_stray : lines (begun usual (packet 0 1 0 ∷ flush_start (ms 50) ∷ flush_stop (ms 60) ∷ retransmission (ms 65) 3 3600 ∷ [])) ≡ told 0 Accepted 65537 0 ∷ flush (ms 50) 1 ∷ told (ms 65) Stray 0 0 ∷ []
unfolding pusher_count
a_stray = refl

-- the window has 8192 numbers
a_full_store : lines (begun (record usual { dropout = 30000 }) (packet 0 1 0 ∷ packet (ms 10) 8193 900 ∷ packet (ms 20) 8192 1800 ∷ [])) ≡ told 0 Accepted 65537 0 ∷ told (ms 10) Full 73729 0 ∷ told (ms 20) Accepted 73728 0 ∷ []
unfolding pusher_count
a_full_store = refl

-- it goes down from the greatest too, as long as nothing was given out
full_below : lines (begun usual (packet 0 8193 0 ∷ retransmission (ms 10) 1 0 ∷ retransmission (ms 20) 2 0 ∷ [])) ≡ told 0 Accepted 73729 0 ∷ told (ms 10) Full 65537 0 ∷ told (ms 20) Accepted 65538 0 ∷ []
unfolding pusher_count
full_below = refl

-- and up from the next number, once something was given out
full_from_next : lines (begun (record usual { dropout = 30000 }) (packet 0 1 0 ∷ packet (ms 100) 2 1800 ∷ packet (ms 110) 8195 900 ∷ packet (ms 120) 8194 1800 ∷ [])) ≡ told 0 Accepted 65537 0 ∷ out (ms 100) 65537 0 ∷ told (ms 100) Accepted 65538 0 ∷ out (ms 100) 65538 (ms 20) ∷ told (ms 110) Full 73731 0 ∷ told (ms 120) Accepted 73730 0 ∷ lost (ms 120) 65539 8191 (ms 20) 0 ∷ out (ms 120) 73730 (ms 20) ∷ []
unfolding pusher_count
full_from_next = refl

-- requests by packet spacing: the number after the greatest is requested when the spacing of the last two heights says that it is due, and a later packet brings the requests of the numbers below it
by_spacing : outputs (played (record usual { rtx = true; reorder = 0 }) (packet 0 1 0 ∷ packet (ms 20) 2 1800 ∷ packet (ms 80) 5 7200 ∷ packet (ms 80) 7 10800 ∷ [])) ≡ request (ms 60) 65539 0 ∷ request (ms 100) 65540 0 ∷ request (ms 100) 65542 0 ∷ out (ms 100) 65537 0 ∷ out (ms 100) 65538 (ms 20) ∷ request (ms 140) 65540 1 ∷ request (ms 140) 65542 1 ∷ lost (ms 140) 65539 1 (ms 40) (ms 20) ∷ request (ms 160) 65544 0 ∷ lost (ms 160) 65540 1 (ms 60) (ms 20) ∷ out (ms 160) 65541 (ms 80) ∷ request (ms 180) 65542 2 ∷ request (ms 200) 65544 1 ∷ lost (ms 200) 65542 1 (ms 100) (ms 20) ∷ out (ms 200) 65543 (ms 120) ∷ end (ms 200) ∷ []
unfolding pusher_count
by_spacing = refl

-- a number that a retransmission fills is not requested again
filled : outputs (played (record usual { rtx = true; reorder = 0 }) (packet 0 1 0 ∷ packet (ms 20) 2 1800 ∷ packet (ms 60) 4 5400 ∷ retransmission (ms 90) 3 3600 ∷ [])) ≡ request (ms 60) 65539 0 ∷ request (ms 100) 65541 0 ∷ out (ms 100) 65537 0 ∷ out (ms 100) 65538 (ms 20) ∷ out (ms 100) 65539 (ms 40) ∷ out (ms 100) 65540 (ms 60) ∷ request (ms 140) 65541 1 ∷ end (ms 140) ∷ []
unfolding pusher_count
filled = refl

-- with a packet that is reorder or more above it a missing one is requested at once
reordered : outputs (begun (record usual { rtx = true; reorder = 2 }) (packet 0 1 0 ∷ packet (ms 30) 4 5400 ∷ [])) ≡ request (ms 30) 65538 0 ∷ []
unfolding pusher_count
reordered = refl

-- the greatest request that is due is answered, and the lesser ones are served with it
greatest_due : outputs (begun (record usual { rtx = true; latency = 500000000 }) (packet 0 1 0 ∷ packet (ms 20) 3 3600 ∷ leap (ms 139) ∷ leap (ms 160) ∷ [])) ≡ request (ms 139) 65538 2 ∷ request (ms 139) 65540 1 ∷ request (ms 160) 65538 3 ∷ request (ms 160) 65540 2 ∷ []
unfolding pusher_count
greatest_due = refl

-- no request is made at the limit
request_limit : outputs (begun (record usual { rtx = true; rtx_delay = 40000000; latency = 40000000; reorder = 0 }) (packet 0 1 0 ∷ packet (ms 20) 2 1800 ∷ packet (ms 60) 3 3600 ∷ tick (ms 100) ∷ [])) ≡ out (ms 40) 65537 0 ∷ out (ms 40) 65538 (ms 20) ∷ out (ms 60) 65539 (ms 40) ∷ []
unfolding pusher_count
request_limit = refl

-- the output starts at once with so many consecutive packets
faststart : outputs (begun (record usual { faststart = 2 }) (packet 0 1 0 ∷ packet (ms 10) 3 3600 ∷ packet (ms 20) 2 1800 ∷ [])) ≡ out (ms 20) 65537 0 ∷ out (ms 20) 65538 (ms 20) ∷ out (ms 20) 65539 (ms 40) ∷ []
unfolding pusher_count
faststart = refl

-- a deadline goes by the latency of the moment
a_latency : outputs (begun usual (packet 0 1 0 ∷ packet (ms 20) 3 3600 ∷ set_latency (ms 30) (ms 10) ∷ tick (ms 30) ∷ [])) ≡ out (ms 30) 65537 0 ∷ lost (ms 30) 65538 1 (ms 20) (ms 20) ∷ out (ms 30) 65539 (ms 40) ∷ []
unfolding pusher_count
a_latency = refl

-- a sender report is told at its presentation time, where there was a height
reports : lines (begun usual (sender_report (ms 1) 0 ∷ packet (ms 2) 1 900 ∷ sender_report (ms 3) 1800 ∷ [])) ≡ sync 0 None ∷ told (ms 2) Accepted 65537 0 ∷ sync (ms 2) (Some (record { ntp_ns = 0; local = ms 12 })) ∷ []
unfolding pusher_count
reports = refl

-- the example that docs/BUFFER.md tells: a loss, a late packet, requests and a restart
told_example : lines (begun (record usual { rtx = true; reorder = 0 }) (packet 0 1 0 ∷ packet (ms 20) 2 1800 ∷ packet (ms 60) 4 5400 ∷ packet (ms 150) 3 3600 ∷ packet (ms 200) 9001 500000 ∷ packet (ms 220) 9002 501800 ∷ packet (ms 240) 9003 503600 ∷ packet (ms 260) 9004 505400 ∷ packet (ms 280) 9005 507200 ∷ tick (ms 300) ∷ [])) ≡
    told 0 Accepted 65537 0 ∷ told (ms 20) Accepted 65538 0 ∷ request (ms 60) 65539 0 ∷ told (ms 60) Accepted 65540 0
    ∷ request (ms 100) 65541 0 ∷ out (ms 100) 65537 0 ∷ out (ms 100) 65538 (ms 20) ∷ request (ms 120) 65539 1
    ∷ request (ms 140) 65541 1 ∷ lost (ms 140) 65539 1 (ms 40) (ms 20) ∷ out (ms 140) 65540 (ms 60) ∷ told (ms 150) Late 65539 0
    ∷ told (ms 200) Aside 74537 0 ∷ told (ms 220) Aside 74538 0 ∷ told (ms 240) Aside 74539 0 ∷ told (ms 260) Aside 74540 0 ∷ told (ms 280) (Restart 0) 74541 0
    ∷ out (ms 300) 74537 (ms 200) ∷ out (ms 300) 74538 (ms 220) ∷ out (ms 300) 74539 (ms 240) ∷ out (ms 300) 74540 (ms 260) ∷ out (ms 300) 74541 (ms 280) ∷ []
unfolding pusher_count
told_example = refl
