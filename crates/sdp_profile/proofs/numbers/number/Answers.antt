use Rattle.std.proofs.Common.{◌≡◌, arith, get_or, sym, ◌∙◌, true}
use Rattle.std.specs.Char.{is_digit, is_ascii_digit}
use Rattle.sdp_profile.proofs.NumberLemmas.{value_step, all_step, all_stop, decimal_digit, is_decimal_digit, value_grows, bad_digits, too_great}
use Rattle.sdp_profile.proofs.numbers.number.Goals as goal
use Rattle.sdp_profile.proofs.numbers.number.Goals.{then-not-is_ascii_digit-via-then-not-is_ascii_digit, then-not-is_ascii_digit-via-else-not-is_ascii_digit+then-value-gt-MAX_NUMBER}

pub loop-byte-preserved : goal.loop-byte-preserved
loop-byte-preserved c =
    let digit : is_ascii_digit (get_or c.args.word.now c.loop-byte.byte-index 0) ≡ true = sym c.is_ascii_digit.ensures.value ∙ c.if-not-is_ascii_digit.false in (
      value_step 10 c.loop-byte.value _ c.args.word.now c.loop-byte.byte-index c.from.result (omega arith) (c.from.ensures ∙ decimal_digit (get_or c.args.word.now c.loop-byte.byte-index 0) digit) c.loop-byte.invariant.0,
      all_step (λ c'. is_digit c' 10) _ c.args.word.now c.loop-byte.byte-index (omega arith) (is_decimal_digit (get_or c.args.word.now c.loop-byte.byte-index 0) ∙ digit) c.loop-byte.invariant.1,
    )

pub returns-then-not-is_ascii_digit-clause-value : goal.returns-then-not-is_ascii_digit-clause-value
returns-then-not-is_ascii_digit-clause-value c =
    elim c.then-not-is_ascii_digit.branch [
      | then-not-is_ascii_digit-via-then-not-is_ascii_digit w ↦
          sym (bad_digits c.args.least c.args.most c.args.word.now (all_stop (λ c'. is_digit c' 10) _ c.args.word.now c.loop-byte.byte-index (omega arith)
          (is_decimal_digit (get_or c.args.word.now c.loop-byte.byte-index 0) ∙ sym c.is_ascii_digit.ensures.value ∙ w.if-not-is_ascii_digit.true) c.loop-byte.invariant.1))
      | then-not-is_ascii_digit-via-else-not-is_ascii_digit+then-value-gt-MAX_NUMBER w ↦
          sym (too_great c.args.least c.args.most c.args.word.now (omega (arith, value_grows c.loop-byte.value, c.loop-byte.invariant.0)))
    ]
