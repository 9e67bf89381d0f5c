-- A source as the fold of what was heard of it since it was added.
use Rattle.std.specs.Prelude.{ℕ, ◌-◌, ◌/◌, ◌%◌, ◌==◌, ◌&&◌, ◌||◌, not, nat_lt, nat_le, if◌then◌else◌, Bool, true, false, Option, Some, None}
use Rattle.rtp_units.specs.Numbers.{ntp_middle_bits, delay_units}
use Rattle.rtp_units.specs.declared.shared.Address.{Address}
use Rattle.rtcp_wire.specs.declared.block.ReportBlock.{ReportBlock}
use Rattle.source_table.specs.declared.counts.Counts.{Counts}
use Rattle.source_table.specs.declared.source.Source.{Source}
use Rattle.source_table.specs.declared.source.Packet.{Packet}
use Rattle.source_table.specs.declared.source.Report.{Report}
use Rattle.source_table.specs.declared.source.Heard.{Heard}
use Rattle.source_table.specs.declared.source.Heard.TheVariants.{Waiting, NowValid, Valid}
use Rattle.source_table.specs.Counting.{no_run, follows, run_next, no_jitter, jitter_next, counts_begin, count_next, counts_reported, fraction_of, lost_of}

abbrev pub fresh : Address → Source
fresh from = record { from = from; run = no_run; counts = None; jitter = no_jitter; last = 0; spoke = false; left = false; report = None }

-- The last packets have as many consecutive numbers as are needed.
abbrev pub is_enough : Source → Packet → Bool
is_enough s p = nat_le p.needed (run_next s.run p.seq).length

abbrev pub answer_from : Option Counts → Source → Packet → Heard
answer_from (Some c) s p = Valid
answer_from None s p = if is_enough s p then NowValid else Waiting (not (s.run.length == 0) && not (follows s.run p.seq))

abbrev pub hear_answer : Source → Packet → Heard
hear_answer s p = answer_from s.counts s p

-- the counts after a packet, and whether it was counted
abbrev pub counts_next : Option Counts → Source → Packet → Option Counts
counts_next (Some c) s p = Some (count_next c p.seq).counts
counts_next None s p = if is_enough s p then Some (counts_begin p.seq) else None

abbrev pub is_counted : Option Counts → Source → Packet → Bool
is_counted (Some c) s p = (count_next c p.seq).counted
is_counted None s p = is_enough s p

abbrev pub hear_next : Source → Packet → Source
hear_next s p = record s {
  run = run_next s.run p.seq;
  counts = counts_next s.counts s p;
  jitter = if is_counted s.counts s p then jitter_next s.jitter p.arrival p.timestamp p.rate else s.jitter;
  last = p.arrival;
  spoke = true;
}

abbrev pub report_next : Source → ℕ → ℕ → ℕ → Source
report_next s now seconds fraction = record s { last = now; report = Some (record { middle = ntp_middle_bits seconds fraction; time = now }) }

abbrev pub left_next : Source → Source
left_next s = record s { left = true }

-- It said BYE, or its last packet or report came more than the timeout before now.
abbrev pub is_gone : Source → ℕ → ℕ → Bool
is_gone s now timeout = s.left || nat_lt timeout (now - s.last)

abbrev pub middle_of : Option Report → ℕ
middle_of None = 0
middle_of (Some r) = r.middle

abbrev pub delay_of : Option Report → ℕ → ℕ
delay_of None now = 0
delay_of (Some r) now = delay_units (now - r.time)

abbrev pub block_from : Option Counts → Source → ℕ → ℕ → Option ReportBlock
block_from None s ssrc now = None
block_from (Some c) s ssrc now =
    if s.spoke then Some (record {
      ssrc = ssrc;
      fraction = fraction_of c;
      lost = lost_of c;
      greatest = c.greatest % 4294967296;
      jitter = s.jitter.sixteenths / 16;
      lsr = middle_of s.report;
      dlsr = delay_of s.report now;
    })
    else None

-- what a report tells of the source, if it is valid and spoke since its last block
abbrev pub block_of : Source → ℕ → ℕ → Option ReportBlock
block_of s ssrc now = block_from s.counts s ssrc now

abbrev pub reported_from : Option Counts → Source → Source
reported_from None s = s
reported_from (Some c) s = if s.spoke then record s { counts = Some (counts_reported c); spoke = false } else s

-- the source once a block of it was made; the next block begins a new interval
abbrev pub reported : Source → Source
reported s = reported_from s.counts s
