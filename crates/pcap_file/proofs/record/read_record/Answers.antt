use Rattle.std.proofs.Common.{refl, sym, ◌∙◌}
use Rattle.pcap_file.proofs.Asking.{finds_none, finds_many, finds_cut, none_at_first, finds_more, finds_long, finds_fraction, Allows, finds_short, none_behind, is_record}
use Rattle.pcap_file.proofs.record.read_record.Goals as goal

pub returns-in-Err-ReadFault-clause-after : goal.returns-in-Err-ReadFault-clause-after
returns-in-Err-ReadFault-clause-after g c =
    let after = rw (c.in-Err-ReadFault.is, c.in-Err-ReadFault.field-0-is) at c.need.follows.holds-at-none in
    none_at_first c.args.format c.args.count c.args.offset c.args.pull.now c.need.follows.lender-at-none _ _ after

pub returns-then-have-eq0-clause-after : goal.returns-then-have-eq0-clause-after
returns-then-have-eq0-clause-after g c =
    let after = rw (c.in-Err-End.is, c.in-Err-End.field-0-is) at c.need.follows.holds-at-none in
    finds_none c.args.format c.args.count c.args.offset c.in-Err-End.have c.args.pull.now c.need.follows.lender-at-none _ _ (sym c.in-Err-End.have-is ∙ c.if-have-eq0.true) after

pub returns-then-count-ge-MAX_RECORDS-clause-after :
    goal.returns-then-count-ge-MAX_RECORDS-clause-after
returns-then-count-ge-MAX_RECORDS-clause-after g c =
    let after = rw (c.in-Err-End.is, c.in-Err-End.field-0-is) at c.need.follows.holds-at-none in
    finds_many c.args.format c.args.count c.args.offset c.in-Err-End.have c.args.pull.now c.need.follows.lender-at-none _ _ (λ none. c.if-have-eq0.false (c.in-Err-End.have-is ∙ none)) c.if-count-ge-MAX_RECORDS.true after

pub returns-in-Err-End-clause-after : goal.returns-in-Err-End-clause-after
returns-in-Err-End-clause-after g c =
    let after = rw (c.in-Err-End.is, c.in-Err-End.field-0-is) at c.need.follows.holds-at-none in
    finds_cut c.args.format c.args.count c.args.offset c.in-Err-End.have c.args.pull.now c.need.follows.lender-at-none _ _ (λ none. c.if-have-eq0.false (c.in-Err-End.have-is ∙ none)) c.if-count-ge-MAX_RECORDS.false after

pub returns-then-count-ge-MAX_RECORDS-2-clause-after :
    goal.returns-then-count-ge-MAX_RECORDS-2-clause-after
returns-then-count-ge-MAX_RECORDS-2-clause-after g c =
    let after = rw (c.in-Ok.is) at c.need.follows.holds-at-none in
    finds_more c.args.format c.args.count c.args.offset c.in-Ok.bytes.now c.args.pull.now c.need.follows.lender-at-none _ _ c.in-Ok.ensures.length c.if-count-ge-MAX_RECORDS-2.true after.0

pub returns-then-fields-gt-MAX_LENGTH-clause-after :
    goal.returns-then-fields-gt-MAX_LENGTH-clause-after
returns-then-fields-gt-MAX_LENGTH-clause-after g c =
    let after = rw (c.in-Ok.is) at c.need.follows.holds-at-none in
    finds_long c.args.format c.args.count c.args.offset c.in-Ok.bytes.now c.args.pull.now c.need.follows.lender-at-none _ _ c.in-Ok.ensures.length c.if-count-ge-MAX_RECORDS-2.false
    (rw (← c.fields_of-fields.ensures.length) c.if-fields-gt-MAX_LENGTH.true) after.0

pub returns-then-fields-fraction_limit-clause-after :
    goal.returns-then-fields-fraction_limit-clause-after
returns-then-fields-fraction_limit-clause-after g c =
    let after = rw (c.in-Ok.is) at c.need.follows.holds-at-none in
    let fields = c.fields_of-fields.ensures in
    finds_fraction c.args.format c.args.count c.args.offset c.in-Ok.bytes.now c.args.pull.now c.need.follows.lender-at-none _ _ c.in-Ok.ensures.length c.if-count-ge-MAX_RECORDS-2.false
    (rw (← fields.length) c.if-fields-gt-MAX_LENGTH.false) (rw (← fields.fraction, ← c.fraction_limit.ensures) c.if-fields-fraction_limit.true) after.0

pub returns-in-Err-End-need-clause-after : goal.returns-in-Err-End-need-clause-after
returns-in-Err-End-need-clause-after g c =
    let fields = c.fields_of-fields.ensures in
    let first = rw (c.in-Ok.is) at c.need.follows.holds-at-none in
    let second = rw (c.in-Err-End-need.is, c.in-Err-End-need.field-0-is) at c.need-2.follows.holds-at-none in
    let ok : Allows c.args.format c.args.count c.in-Ok.bytes.now = record { size = c.in-Ok.ensures.length; few = c.if-count-ge-MAX_RECORDS-2.false; long = rw (← fields.length) c.if-fields-gt-MAX_LENGTH.false; fraction = rw (← fields.fraction, ← c.fraction_limit.ensures) c.if-fields-fraction_limit.false } in
    finds_short c.args.format c.args.count c.args.offset c.in-Err-End-need.field-0-0 c.in-Ok.bytes.now c.args.pull.now c.need.follows.lender-at-none c.need-2.follows.lender-at-none _ _ _ ok first.0 (rw fields.length at second)

pub returns-in-Err-ReadFault-need-clause-after : goal.returns-in-Err-ReadFault-need-clause-after
returns-in-Err-ReadFault-need-clause-after g c =
    let fields = c.fields_of-fields.ensures in
    let first = rw (c.in-Ok.is) at c.need.follows.holds-at-none in
    let second = rw (c.in-Err-ReadFault-need.is, c.in-Err-ReadFault-need.field-0-is) at c.need-2.follows.holds-at-none in
    let ok : Allows c.args.format c.args.count c.in-Ok.bytes.now = record { size = c.in-Ok.ensures.length; few = c.if-count-ge-MAX_RECORDS-2.false; long = rw (← fields.length) c.if-fields-gt-MAX_LENGTH.false; fraction = rw (← fields.fraction, ← c.fraction_limit.ensures) c.if-fields-fraction_limit.false } in
    none_behind c.args.format c.args.count c.args.offset c.in-Ok.bytes.now c.args.pull.now c.need.follows.lender-at-none c.need-2.follows.lender-at-none _ _ _ ok first.0 (rw fields.length at second)

pub returns-in_ok-copy_of-in-Ok-need-clause-after :
    goal.returns-in_ok-copy_of-in-Ok-need-clause-after
returns-in_ok-copy_of-in-Ok-need-clause-after g c =
    let fields = c.fields_of-fields.ensures in
    let first = rw (c.in-Ok.is) at c.need.follows.holds-at-none in
    let second = rw (c.in-Ok-need.is) at c.need-2.follows.holds-at-none in
    let ok : Allows c.args.format c.args.count c.in-Ok.bytes.now = record { size = c.in-Ok.ensures.length; few = c.if-count-ge-MAX_RECORDS-2.false; long = rw (← fields.length) c.if-fields-gt-MAX_LENGTH.false; fraction = rw (← fields.fraction, ← c.fraction_limit.ensures) c.if-fields-fraction_limit.false } in
    is_record c.args.format c.args.count c.args.offset c.in-Ok.bytes.now c.in-Ok-need.bytes.now c.args.pull.now c.need.follows.lender-at-none c.need-2.follows.lender-at-none _ _ _ _ ok
    (c.in-Ok-need.ensures.length ∙ fields.length) (rw (← fields.seconds) fields.small) refl refl (rw (c.from.ensures, c.from-in-Ok-need.ensures, fields.seconds, fields.fraction, c.fraction_unit.ensures.unit) refl) fields.original c.in_ok-copy_of-in-Ok-need.ensures first.0 second.0
