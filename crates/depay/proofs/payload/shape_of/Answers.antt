use Rattle.std.proofs.Common.{◌≡◌, ◌∙◌, ◌≤◌, sym, ap, false, true, length, arith}
use Rattle.depay.specs.Payload.{nal_type, is_unit_type}
use Rattle.depay.proofs.Deciding.{not_zero}
use Rattle.depay.proofs.Shaping.{empty_is, kind_is, single_large, single_is}
use Rattle.depay.proofs.payload.shape_of.Goals as goal

pub returns-then-is_empty : goal.returns-then-is_empty
returns-then-is_empty c = empty_is c.args.payload.now (sym c.is_empty.ensures ∙ c.if-is_empty.true)

pub returns-then-not-is_unit_type : goal.returns-then-not-is_unit_type
returns-then-not-is_unit_type c =
    let filled : 1 ≤ length c.args.payload.now = not_zero (length c.args.payload.now) (sym c.is_empty.ensures ∙ c.if-is_empty.false) in
    let unit : is_unit_type (nal_type c.args.payload.now) ≡ false = ap is_unit_type (sym c.nal_type-kind.ensures) ∙ sym c.is_unit_type.ensures ∙ c.if-not-is_unit_type.true in
    kind_is c.args.payload.now filled (λ e. absurd (omega arith)) (λ e. absurd (omega arith)) unit

pub returns-then-payload-gt-MAX_UNIT : goal.returns-then-payload-gt-MAX_UNIT
returns-then-payload-gt-MAX_UNIT c =
    let filled : 1 ≤ length c.args.payload.now = not_zero (length c.args.payload.now) (sym c.is_empty.ensures ∙ c.if-is_empty.false) in
    let unit : is_unit_type (nal_type c.args.payload.now) ≡ true = ap is_unit_type (sym c.nal_type-kind.ensures) ∙ sym c.is_unit_type.ensures ∙ c.if-not-is_unit_type.false in
    single_large c.args.payload.now filled (λ e. absurd (omega arith)) (λ e. absurd (omega arith)) unit (omega arith)

pub returns : goal.returns
returns c =
    let filled : 1 ≤ length c.args.payload.now = not_zero (length c.args.payload.now) (sym c.is_empty.ensures ∙ c.if-is_empty.false) in
    let unit : is_unit_type (nal_type c.args.payload.now) ≡ true = ap is_unit_type (sym c.nal_type-kind.ensures) ∙ sym c.is_unit_type.ensures ∙ c.if-not-is_unit_type.false in
    single_is c.args.payload.now filled (λ e. absurd (omega arith)) (λ e. absurd (omega arith)) unit (omega arith)
