-- What the objects in memory show.
use Rattle.std.specs.Prelude.{◌≡◌, ◌+◌, ◌-◌, ◌^◌, min, ℕ, Bool, true, List, Option, Contains}
use Rattle.rtp_io.specs.Outside.{Disk}
use Rattle.rtp_io.specs.Memory.{disk_of, known, told_of}
use Rattle.rtp_io.specs.declared.memory.MemoryFiles.{MemoryFiles}
use Rattle.rtp_io.specs.declared.memory_sink.MemorySink.{MemorySink}
use Rattle.rtp_io.specs.declared.sure.SureFiles.{SureFiles}
use Rattle.rtp_io.specs.declared.sure.SureSink.{SureSink}

-- Every name may be opened. One that isn't there fails.
abbrev pub memory_disk : MemoryFiles → Disk
memory_disk files = disk_of (λ _. true) files.shelf

abbrev pub is_held : MemoryFiles → List ℕ → Bool
is_held files = known files.shelf

abbrev pub memory_faults : MemoryFiles → ℕ
memory_faults files = files.faults

-- the most bytes that one read gives
abbrev pub memory_step : MemoryFiles → Option ℕ
memory_step files = files.shelf.step

-- the numbers of the calls that fail, and how many calls came
abbrev pub failing_calls : MemoryFiles → List ℕ
failing_calls files = files.failing.items

abbrev pub call_count : MemoryFiles → ℕ
call_count files = files.calls

-- the number of the next call, from 1 on, is one of those that fail
abbrev pub IsNextToFail : List ℕ → ℕ → Type 0
IsNextToFail failing calls = Contains failing (min (calls + 1) (2 ^ 64 - 1))

-- A call was counted. The names, the numbers of the calls that fail and the step stay.
pub record CountsCall (old new : MemoryFiles) : Type 0 where
  pub calls : call_count new ≡ min (call_count old + 1) (2 ^ 64 - 1)
  pub failing : failing_calls new ≡ failing_calls old
  pub held : is_held new ≡ is_held old
  pub step : memory_step new ≡ memory_step old

-- the names that are there may be opened
abbrev pub sure_disk : SureFiles → Disk
sure_disk files = disk_of (known files.shelf) files.shelf

abbrev pub sure_step : SureFiles → Option ℕ
sure_step files = files.shelf.step

abbrev pub memory_written : MemorySink → Option (List ℕ)
memory_written sink = told_of sink.tape

abbrev pub memory_sink_faults : MemorySink → ℕ
memory_sink_faults sink = sink.faults

abbrev pub memory_room : MemorySink → ℕ
memory_room sink = sink.tape.room

abbrev pub memory_sink_step : MemorySink → Option ℕ
memory_sink_step sink = sink.tape.step

-- the numbers of the writes that fail, and how many writes came
abbrev pub failing_writes : MemorySink → List ℕ
failing_writes sink = sink.failing.items

abbrev pub write_count : MemorySink → ℕ
write_count sink = sink.calls

-- A write was counted. The numbers of the writes that fail, the room and the step stay.
pub record CountsWrite (old new : MemorySink) : Type 0 where
  pub calls : write_count new ≡ min (write_count old + 1) (2 ^ 64 - 1)
  pub failing : failing_writes new ≡ failing_writes old
  pub room : memory_room new ≡ memory_room old
  pub step : memory_sink_step new ≡ memory_sink_step old

abbrev pub sure_written : SureSink → Option (List ℕ)
sure_written sink = told_of sink.tape

abbrev pub sure_room : SureSink → ℕ
sure_room sink = sink.tape.room
