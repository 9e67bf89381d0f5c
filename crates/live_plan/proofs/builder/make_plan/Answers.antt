use Rattle.std.proofs.Common.{◌≡◌, ◌∙◌, ℕ, ◌+◌, ◌<◌, ◌≤◌, ◌++◌, [], ◌∷◌, List, length, map, take, sym, ap, subst, arith, rules}
use Rattle.std.proofs.lemmas.List.{map_more, take_all}
use Rattle.pcap_file.specs.Capture.{Record}
use Rattle.pcap_file.specs.Reading.{record_view}
use Rattle.pcap_file.specs.declared.record.PcapRecord.{PcapRecord}
use Rattle.live_plan.specs.Taken.{HasTaken}
use Rattle.live_plan.proofs.builder.make_plan.Goals as goal

pub loop-captured-preserved : goal.loop-captured-preserved
loop-captured-preserved c =
    let xs = c.args.records.now in
    let i = c.loop-captured.captured-index in
    let x = c.captured-item.result in
    let within : i < length xs = omega arith in
    let next : map (record_view c.args.link) (take i xs) ++ record_view c.args.link x ∷ [] ≡ map (record_view c.args.link) (take (i + 1) xs) =
    ap (λ (y : PcapRecord). map (record_view c.args.link) (take i xs) ++ record_view c.args.link y ∷ []) c.captured-item.is ∙ sym (map_more (record_view c.args.link) xs i x within) in
    record {
      taken = subst (λ (rs : List Record). HasTaken c.args.script.now rs c.take.new.self) next (c.in_ok-take.ensures.taken c.args.script.now (map (record_view c.args.link) (take i xs)) c.loop-captured.invariant.taken);
      count = c.in_ok-take.ensures.records ∙ ap (λ (n : ℕ). n + 1) c.loop-captured.invariant.count;
    }

pub returns-clause-plan : goal.returns-clause-plan
returns-clause-plan c =
    let xs = c.args.records.now in
    let all : length xs ≤ c.loop-captured.captured-index = omega arith in
    c.finish.ensures.plan (map (record_view c.args.link) xs)
    (subst (λ (ys : List PcapRecord). HasTaken c.args.script.now (map (record_view c.args.link) ys) c.loop-captured.builder) (take_all c.loop-captured.captured-index xs all) c.loop-captured.invariant.taken)

pub returns-clause-course : goal.returns-clause-course
returns-clause-course c =
    let xs = c.args.records.now in
    let all : length xs ≤ c.loop-captured.captured-index = omega arith in
    c.finish.ensures.course (map (record_view c.args.link) xs)
    (subst (λ (ys : List PcapRecord). HasTaken c.args.script.now (map (record_view c.args.link) ys) c.loop-captured.builder) (take_all c.loop-captured.captured-index xs all) c.loop-captured.invariant.taken)
