use Rattle.std.proofs.Common.{ap, refl, ◌∙◌, length, List}
use Rattle.pcap_file.specs.Capture.{Record}
use Rattle.pcap_file.specs.Reading.{record_view}
use Rattle.script_lang.specs.declared.script.Item.{Item}
use Rattle.replay_model.specs.Inputs.{items_to}
use Rattle.bin_core.specs.Bins.{timed}
use Rattle.bin_core.specs.Words.{time_of}
use Rattle.command_core.specs.Laws.{more_then}
use Rattle.replay_command.proofs.Ahead.{LogGoesOn}
use Rattle.replay_command.proofs.Items.{behind_is, due_is, due_count, due_are, due_time}
use Rattle.replay_command.proofs.Replaying.{InputsGoOn, GoOn, takes, takes_items, can_go_on}
use Rattle.replay_command.proofs.command.ReplayCommandCommand.take.Goals as goal

pub give_items-requires-clause-items : goal.give_items-requires-clause-items
give_items-requires-clause-items g c =
    let command = c.args.self.now in
    let items = c.items_of-items.result.now in
    let same = c.items_of-items.ensures.value in
    let count = c.count_to.ensures.count ∙ ap (λ (l : List Item). length (items_to c.args.time l)) (behind_is command.given items) in
    due_are _ (time_of command.player.bin) c.args.time command.given c.count_to.result items command.script.now.items same count refl c.requires.ready.are

pub give_record-requires-clause-onward : goal.give_record-requires-clause-onward
give_record-requires-clause-onward g c =
    let command = c.args.self.now in
    let items = c.items_of-items.result.now in
    let same = c.items_of-items.ensures.value in
    let count = c.count_to.ensures.count ∙ ap (λ (l : List Item). length (items_to c.args.time l)) (behind_is command.given items) in
    due_time _ _ (time_of command.player.bin) c.args.time command.given c.count_to.result items command.script.now.items same count refl c.requires.onward c.in-Ok.ensures.time

pub returns-in-Err-clause-takes : goal.returns-in-Err-clause-takes
returns-in-Err-clause-takes g c =
    let log : LogGoesOn = record { input = c.goes_on.ensures.input; part = c.goes_on.ensures.part; whole = c.goes_on.ensures.whole } in
    let inputs : InputsGoOn = record {
      more = c.inputs_go_on.ensures.more;
      next = c.inputs_go_on.ensures.next;
      left = c.inputs_go_on.ensures.left;
    } in
    let law : GoOn = record { log = log; inputs = inputs } in
    let command = c.args.self.now in
    let items = c.items_of-items.result.now in
    let same = c.items_of-items.ensures.value in
    let count = c.count_to.ensures.count ∙ ap (λ (l : List Item). length (items_to c.args.time l)) (behind_is command.given items) in
    takes_items law command.script.now command.player c.give_items.new.self command.given c.args.time (record_view c.args.link c.args.rec.now) _ c.in-Err.stop (λ (seen : List Record). Unit {0}) _ _
    (due_is c.args.time command.given c.count_to.result items command.script.now.items same count) c.in-Err.ensures.plays

pub returns-clause-takes : goal.returns-clause-takes
returns-clause-takes g c =
    let log : LogGoesOn = record { input = c.goes_on.ensures.input; part = c.goes_on.ensures.part; whole = c.goes_on.ensures.whole } in
    let inputs : InputsGoOn = record {
      more = c.inputs_go_on.ensures.more;
      next = c.inputs_go_on.ensures.next;
      left = c.inputs_go_on.ensures.left;
    } in
    let law : GoOn = record { log = log; inputs = inputs } in
    let command = c.args.self.now in
    let items = c.items_of-items.result.now in
    let same = c.items_of-items.ensures.value in
    let count = c.count_to.ensures.count ∙ ap (λ (l : List Item). length (items_to c.args.time l)) (behind_is command.given items) in
    takes law command.script.now command.player c.give_items.new.self c.give_record.new.self command.given _ c.count_to.result c.args.time (record_view c.args.link c.args.rec.now) (timed c.args.time c.args.link c.args.rec.now) _ c.give_record.result _ _ _
    c.give_items.ensures.style c.give_record.ensures.style refl (due_is c.args.time command.given c.count_to.result items command.script.now.items same count) (due_count c.args.time command.given c.count_to.result items command.script.now.items same count) refl
    c.in-Ok.ensures.plays c.give_record.ensures.plays

pub returns-clause-ready : goal.returns-clause-ready
returns-clause-ready g c =
    let command = c.args.self.now in
    let items = c.items_of-items.result.now in
    let same = c.items_of-items.ensures.value in
    let count = c.count_to.ensures.count ∙ ap (λ (l : List Item). length (items_to c.args.time l)) (behind_is command.given items) in
    can_go_on command.script.now c.give_record.new.self command.given _ c.count_to.result (time_of command.player.bin) c.args.time c.give_record.result refl (due_count c.args.time command.given c.count_to.result items command.script.now.items same count)
    c.requires.ready.few c.requires.ready.are c.give_record.ensures.ready c.give_record.ensures.time

pub returns-clause-more : goal.returns-clause-more
returns-clause-more g c = more_then _ _ _ c.give_items.ensures.more c.give_record.ensures.more
