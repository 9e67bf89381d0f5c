-- What is known of a bin between two calls.
use Rattle.std.proofs.Common.{ℕ, ◌≡◌, ◌≤◌, ◌*◌, ◌%◌, ◌/◌, Bool, true, false, sym, ◌∙◌, Result, Ok, Err, [], arith}
use Rattle.std.specs.Prelude.{OnOk, ◌==◌, ◌&&◌, ◌^◌, nat_le, nat_lt}
use Rattle.std.specs.Result.{is_err}
use Rattle.std.proofs.Props.{props}
use Rattle.std.proofs.Math.Logic.{∥∥₁_elim}
use Rattle.std.proofs.lemmas.Bool.{and_parts, eqb-true, leb-true}
use Rattle.script_lang.specs.Contents.{Contents, IsScript}
use Rattle.script_lang.specs.Settings.{is_within, is_time_within}
use Rattle.bin_core.specs.declared.agenda.Agenda.{Agenda}
use Rattle.bin_core.specs.Known.{IsKnown}
use Rattle.bin_core.specs.Underway.{Owes}

-- ---- a stage

pub known_owes : (broken finished : Bool) (records : ℕ) (agenda : Agenda) → ∥ IsKnown broken finished records agenda ∥₁ → broken ≡ false → finished ≡ false → Owes records [] agenda.stage
known_owes broken finished records agenda k works runs = ∥∥₁_elim k (hlevel props) (λ known. known works runs)

pub owes_known : (broken finished : Bool) (records : ℕ) (agenda : Agenda) → Owes records [] agenda.stage → ∥ IsKnown broken finished records agenda ∥₁
owes_known broken finished records agenda k = ∣ (λ works runs. k) ∣₁

pub broken_known : (broken finished : Bool) (records : ℕ) (agenda : Agenda) → broken ≡ true → ∥ IsKnown broken finished records agenda ∥₁
broken_known broken finished records agenda e = ∣ (λ works runs. absurd (differ (sym e ∙ works))) ∣₁
  where
    differ : true ≡ false → ⊥
    differ e = cc

pub finished_known : (broken finished : Bool) (records : ℕ) (agenda : Agenda) → finished ≡ true → ∥ IsKnown broken finished records agenda ∥₁
finished_known broken finished records agenda e = ∣ (λ works runs. absurd (differ (sym e ∙ runs))) ∣₁
  where
    differ : true ≡ false → ⊥
    differ e = cc

-- broken where memory was refused
pub result_known : {T E : Type 0} (r : Result T E) (broken finished : Bool) (records : ℕ) (agenda : Agenda) → broken ≡ is_err r → OnOk r (Owes records [] agenda.stage) → ∥ IsKnown broken finished records agenda ∥₁
result_known (Ok x) broken finished records agenda e k = owes_known broken finished records agenda k
result_known (Err x) broken finished records agenda e k = broken_known broken finished records agenda e

-- ---- the interval of report times

within : (least most n : ℕ) → is_within least most n ≡ true → n ≤ most
within least most n h = leb-true n most (and_parts (nat_le least n) (nat_le n most) h).1

-- in nanoseconds
time_within : (least most ns : ℕ) → is_time_within least most ns ≡ true → ns ≤ 1000000 * most
time_within least most ns h =
    let both = and_parts (ns % 1000000 == 0) (is_within least most (ns / 1000000)) h in
    let rest : ns % 1000000 ≡ 0 = eqb-true (ns % 1000000) 0 both.0 in
    omega (arith, rest, within least most (ns / 1000000) both.1)

pub interval_small : (c : Contents) → IsScript c → c.settings.report ≤ 600000000000
interval_small c script =
    let s = c.settings in
    let others = is_time_within 0 600000 s.report && (is_time_within 1 600000 s.timeout && (is_within 1 4096 s.history && (nat_lt s.ssrc (2 ^ 32) && true))) in
    let latency = and_parts (is_time_within 0 600000 s.latency) _ script.settings_fit in
    let delay = and_parts (is_time_within 0 60000 s.rtx_delay) _ latency.1 in
    let retry = and_parts (is_time_within 1 60000 s.rtx_retry) _ delay.1 in
    let most = and_parts (is_within 0 255 s.rtx_max) _ retry.1 in
    let reorder = and_parts (is_within 0 100 s.reorder) _ most.1 in
    let dropout = and_parts (is_within 1 30000 s.dropout) _ reorder.1 in
    let misorder = and_parts (is_within 0 1000 s.misorder) _ dropout.1 in
    let probation = and_parts (is_within 0 16 s.probation) _ misorder.1 in
    let faststart = and_parts (is_within 0 1000 s.faststart) others probation.1 in
    let report = and_parts (is_time_within 0 600000 s.report) _ faststart.1 in
    time_within 0 600000 s.report report.0
