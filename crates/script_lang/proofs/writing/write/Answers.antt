-- The text has the lines of all parts, and a text of them is read as the script.
use Rattle.std.proofs.Common.{◌≤◌, ◌∙◌, ◌++◌, ap, subst, length, map}
use Rattle.std.specs.Prelude.{string_bytes}
use Rattle.script_lang.specs.Contents.{Contents, IsScript}
use Rattle.script_lang.specs.Settings.{settings_list}
use Rattle.script_lang.specs.Grammar.{read_script}
use Rattle.script_lang.specs.Written.{lines_text}
use Rattle.script_lang.specs.declared.entry.Entry.TheVariants as entry
use Rattle.script_lang.proofs.RoundLemmas.{script_again, all_written}
use Rattle.script_lang.proofs.writing.write.Goals as goal

pub returns-clause-text : goal.returns-clause-text
returns-clause-text c =
    let view = c.script.view_is in
    c.from_vec.ensures ∙ ap (λ v. v.items) c.into_bytes.ensures.value
    ∙ all_written c.args.script.now c.deref.result.now c.deref-2.result.now c.deref-3.result.now c.deref-4.result.now c.list.result c.deref-5.result.now
    (string_bytes c.push_sessions.new.text) (string_bytes c.push_pts.new.text) (string_bytes c.push_rtx.new.text)
    (string_bytes c.push_fids.new.text) (string_bytes c.push_settings.new.text) (string_bytes c.push_items.new.text)
    (c.deref.ensures.value ∙ ap (λ (k : Contents). k.sessions) view) (c.deref-2.ensures.value ∙ ap (λ (k : Contents). k.pts) view)
    (c.deref-3.ensures.value ∙ ap (λ (k : Contents). k.rtx) view) (c.deref-4.ensures.value ∙ ap (λ (k : Contents). k.fids) view)
    (c.list.ensures ∙ ap (λ (k : Contents). settings_list k.settings) view) (c.deref-5.ensures.value ∙ ap (λ (k : Contents). k.items) view)
    (c.in_ok-push_sessions.ensures ∙ ap (λ t. t ++ lines_text (map entry.Session c.deref.result.now)) c.new-text.ensures.bytes)
    c.in_ok-push_pts.ensures c.in_ok-push_rtx.ensures c.in_ok-push_fids.ensures c.in_ok-push_settings.ensures c.in_ok-push_items.ensures

pub returns-clause-reads_back : goal.returns-clause-reads_back
returns-clause-reads_back c short =
    let text = returns-clause-text c in
    ap read_script text ∙ script_again c.args.script.now (subst IsScript c.script.view_is c.script.invariant) (subst (λ t. length t ≤ 1048576) text short)
