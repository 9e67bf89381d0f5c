use Rattle.std.proofs.Common.{arith}
use Rattle.script_lang.proofs.NumberLemmas.{hex_small}
use Rattle.script_lang.proofs.numbers.ssrc.Goals as goal

pub overflow_mul-value : goal.overflow_mul-value
overflow_mul-value c = omega (arith, hex_small c.loop-byte.value c.loop-byte.byte-index 0)

pub overflow_add-value : goal.overflow_add-value
overflow_add-value c = omega (arith, hex_small c.loop-byte.value c.loop-byte.byte-index c.in-Some.digit, c.in-Some.ensures.value)
