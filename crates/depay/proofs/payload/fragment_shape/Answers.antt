use Rattle.std.proofs.Common.{◌≡◌, ◌∙◌, sym, ap, false, true, arith}
use Rattle.depay.specs.Payload.{fu_type, is_unit_type, only_starts}
use Rattle.depay.proofs.Shaping.{fragment_short, fragment_kind, fragment_stray, fragment_large, fragment_is}
use Rattle.depay.proofs.payload.fragment_shape.Goals as goal

pub returns-then-payload-lt-FU_HEAD : goal.returns-then-payload-lt-FU_HEAD
returns-then-payload-lt-FU_HEAD c = fragment_short c.args.payload.now c.requires.filled c.requires.kind (omega arith)

pub returns-then-not-is_unit_type : goal.returns-then-not-is_unit_type
returns-then-not-is_unit_type c =
    fragment_kind c.args.payload.now (omega arith) c.requires.kind (ap is_unit_type (sym c.fu_type.ensures.value) ∙ sym c.is_unit_type.ensures ∙ c.if-not-is_unit_type.true)

pub returns-then-not-only_starts : goal.returns-then-not-only_starts
returns-then-not-only_starts c =
    let kind : is_unit_type (fu_type c.args.payload.now) ≡ true = ap is_unit_type (sym c.fu_type.ensures.value) ∙ sym c.is_unit_type.ensures ∙ c.if-not-is_unit_type.false in
    fragment_stray c.args.payload.now (omega arith) c.requires.kind kind (sym c.only_starts.ensures ∙ c.if-not-only_starts.true)

pub returns-then-part-gt-MAX_UNIT : goal.returns-then-part-gt-MAX_UNIT
returns-then-part-gt-MAX_UNIT c =
    let kind : is_unit_type (fu_type c.args.payload.now) ≡ true = ap is_unit_type (sym c.fu_type.ensures.value) ∙ sym c.is_unit_type.ensures ∙ c.if-not-is_unit_type.false in
    let starts : only_starts c.args.payload.now ≡ true = sym c.only_starts.ensures ∙ c.if-not-only_starts.false in
    fragment_large c.args.payload.now (omega arith) c.requires.kind kind starts (omega arith)

pub returns : goal.returns
returns c =
    let kind : is_unit_type (fu_type c.args.payload.now) ≡ true = ap is_unit_type (sym c.fu_type.ensures.value) ∙ sym c.is_unit_type.ensures ∙ c.if-not-is_unit_type.false in
    let starts : only_starts c.args.payload.now ≡ true = sym c.only_starts.ensures ∙ c.if-not-only_starts.false in
    fragment_is c.args.payload.now (omega arith) c.requires.kind kind starts (omega arith)
