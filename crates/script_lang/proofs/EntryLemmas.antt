-- A line that was written is read.
use Rattle.std.proofs.Common.{◌≡◌, ◌≤◌, ◌/◌, ◌%◌, ◌^◌, ℕ, List, [], ◌∷◌, ◌++◌, length, Bool, true, false, ◌&&◌, not, Some, None, Ok, Err, sym, ◌∙◌, ap, refl, arith, append_assoc, codes, nat_le, nat_lt, nat_eq, if◌then◌else◌}
use Rattle.std.specs.List.{list_all, join_with_byte}
use Rattle.std.specs.Fmt.{decimal}
use Rattle.std.proofs.lemmas.Bool.{leb-true}
use Rattle.rtp_units.specs.declared.shared.Mode.{Mode}
use Rattle.rtp_units.specs.declared.shared.Mode.TheVariants.{Plain, Slave}
use Rattle.script_lang.specs.declared.fault.ScriptCause.TheVariants as cause
use Rattle.script_lang.specs.declared.script.Action.{Action}
use Rattle.script_lang.specs.declared.script.Action.TheVariants as action
use Rattle.script_lang.specs.declared.setting.Setting.{Setting}
use Rattle.script_lang.specs.declared.setting.Setting.TheVariants as setting
use Rattle.script_lang.specs.declared.entry.Entry.{Entry}
use Rattle.script_lang.specs.declared.entry.Entry.TheVariants as entry
use Rattle.script_lang.specs.Causes.{◌>>=◌}
use Rattle.script_lang.specs.Text.{words_of, is_text, is_passed_over}
use Rattle.script_lang.specs.Numbers.{number_in, time_in, ssrc_in}
use Rattle.script_lang.specs.Forms.{WrittenAction, Clock, FlushStart, FlushStop, Latency, WrittenLine, Session, Pt, Rtx, Fid, Setting as SettingForm, At, form_of, form_behind, action_form, is_timed}
use Rattle.script_lang.specs.Settings.{setting_of, setting_fits, mode_of, switch_of, gives, is_within, is_time_within}
use Rattle.script_lang.specs.Entries.{entry_of, session_line, pt_line, rtx_line, fid_line, action_of, item_of, as_entry, action_fits, entry_fits}
use Rattle.script_lang.specs.Facts.{Facts}
use Rattle.script_lang.specs.Tests.{cause_of}
use Rattle.script_lang.specs.Grammar.{entry_of_form, entry_in_line, line_behind, unless}
use Rattle.script_lang.specs.Written.{ssrc_text, time_text, mode_text, switch_text, setting_text, action_text, entry_text}
use Rattle.script_lang.proofs.BoolLemmas.{both_true, true_both}
use Rattle.script_lang.proofs.GrammarLemmas.{line_said}
use Rattle.script_lang.proofs.WordLemmas.{is_word, decimal_word, number_again, time_again, ssrc_word, ssrc_again, words_again, text_of_words}

-- ---- the words of a line

abbrev setting_name : Setting → List ℕ
setting_name (setting.Latency v) = codes "latency"
setting_name (setting.Mode v) = codes "mode"
setting_name (setting.Rtx v) = codes "rtx"
setting_name (setting.RtxDelay v) = codes "rtx-delay"
setting_name (setting.RtxRetry v) = codes "rtx-retry"
setting_name (setting.RtxMax v) = codes "rtx-max"
setting_name (setting.Reorder v) = codes "reorder"
setting_name (setting.Dropout v) = codes "dropout"
setting_name (setting.Misorder v) = codes "misorder"
setting_name (setting.Probation v) = codes "probation"
setting_name (setting.Faststart v) = codes "faststart"
setting_name (setting.Report v) = codes "report"
setting_name (setting.Timeout v) = codes "timeout"
setting_name (setting.History v) = codes "history"
setting_name (setting.Ssrc v) = codes "ssrc"

abbrev setting_value : Setting → List ℕ
setting_value (setting.Latency v) = time_text v
setting_value (setting.Mode v) = mode_text v
setting_value (setting.Rtx v) = switch_text v
setting_value (setting.RtxDelay v) = time_text v
setting_value (setting.RtxRetry v) = time_text v
setting_value (setting.RtxMax v) = decimal v
setting_value (setting.Reorder v) = decimal v
setting_value (setting.Dropout v) = decimal v
setting_value (setting.Misorder v) = decimal v
setting_value (setting.Probation v) = decimal v
setting_value (setting.Faststart v) = decimal v
setting_value (setting.Report v) = time_text v
setting_value (setting.Timeout v) = time_text v
setting_value (setting.History v) = decimal v
setting_value (setting.Ssrc v) = ssrc_text v

abbrev written_action_of : Action → WrittenAction
written_action_of action.Clock = Clock
written_action_of (action.FlushStart s) = FlushStart (decimal s)
written_action_of (action.FlushStop s) = FlushStop (decimal s)
written_action_of (action.Latency s ns) = Latency (decimal s) (time_text ns)

abbrev action_words : Action → List (List ℕ)
action_words action.Clock = codes "clock" ∷ []
action_words (action.FlushStart s) = codes "flush-start" ∷ decimal s ∷ []
action_words (action.FlushStop s) = codes "flush-stop" ∷ decimal s ∷ []
action_words (action.Latency s ns) = codes "latency" ∷ decimal s ∷ time_text ns ∷ []

abbrev written_of : Entry → WrittenLine
written_of (entry.Session l) = Session (decimal l.session) (decimal l.rtp) (decimal l.rtcp)
written_of (entry.Pt l) = Pt (decimal l.session) (decimal l.pt) (decimal l.rate)
written_of (entry.Rtx l) = Rtx (decimal l.session) (decimal l.pt) (decimal l.osession) (decimal l.apt)
written_of (entry.Fid f) = Fid (decimal f.session) (ssrc_text f.ssrc) (ssrc_text f.rtx_ssrc)
written_of (entry.Setting k) = SettingForm (setting_name k) (setting_value k)
written_of (entry.Timed i) = At (time_text i.time) (written_action_of i.action)

abbrev entry_words : Entry → List (List ℕ)
entry_words (entry.Session l) = codes "session" ∷ decimal l.session ∷ decimal l.rtp ∷ decimal l.rtcp ∷ []
entry_words (entry.Pt l) = codes "pt" ∷ decimal l.session ∷ decimal l.pt ∷ decimal l.rate ∷ []
entry_words (entry.Rtx l) = codes "rtx" ∷ decimal l.session ∷ decimal l.pt ∷ decimal l.osession ∷ decimal l.apt ∷ []
entry_words (entry.Fid f) = codes "fid" ∷ decimal f.session ∷ ssrc_text f.ssrc ∷ ssrc_text f.rtx_ssrc ∷ []
entry_words (entry.Setting k) = codes "set" ∷ setting_name k ∷ setting_value k ∷ []
entry_words (entry.Timed i) = codes "at" ∷ time_text i.time ∷ action_words i.action

setting_text_words : (k : Setting) → codes "set " ++ setting_text k ≡ join_with_byte 32 (codes "set" ∷ setting_name k ∷ setting_value k ∷ [])
setting_text_words (setting.Latency v) = refl
setting_text_words (setting.Mode v) = refl
setting_text_words (setting.Rtx v) = refl
setting_text_words (setting.RtxDelay v) = refl
setting_text_words (setting.RtxRetry v) = refl
setting_text_words (setting.RtxMax v) = refl
setting_text_words (setting.Reorder v) = refl
setting_text_words (setting.Dropout v) = refl
setting_text_words (setting.Misorder v) = refl
setting_text_words (setting.Probation v) = refl
setting_text_words (setting.Faststart v) = refl
setting_text_words (setting.Report v) = refl
setting_text_words (setting.Timeout v) = refl
setting_text_words (setting.History v) = refl
setting_text_words (setting.Ssrc v) = refl

action_text_words : (a : Action) → action_text a ≡ join_with_byte 32 (action_words a)
action_text_words action.Clock = refl
action_text_words (action.FlushStart s) = refl
action_text_words (action.FlushStop s) = refl
action_text_words (action.Latency s ns) = simp append_assoc

timed_words : (t : List ℕ) (a : Action) → t ++ (32 ∷ join_with_byte 32 (action_words a)) ≡ join_with_byte 32 (t ∷ action_words a)
timed_words t action.Clock = refl
timed_words t (action.FlushStart s) = refl
timed_words t (action.FlushStop s) = refl
timed_words t (action.Latency s ns) = refl

text_words : (e : Entry) → entry_text e ≡ join_with_byte 32 (entry_words e)
text_words (entry.Session l) = simp append_assoc
text_words (entry.Pt l) = simp append_assoc
text_words (entry.Rtx l) = simp append_assoc
text_words (entry.Fid f) = simp append_assoc
text_words (entry.Setting k) = setting_text_words k
text_words (entry.Timed i) =
    ap (λ t. codes "at " ++ t) (append_assoc (time_text i.time) (32 ∷ []) (action_text i.action) ∙ ap (λ t. time_text i.time ++ (32 ∷ t)) (action_text_words i.action) ∙ timed_words (time_text i.time) i.action)

-- ---- they are words

number_word : (least most n : ℕ) → most ≤ 4294967295 → is_within least most n ≡ true → is_word (decimal n) ≡ true
number_word least most n small h =
    let le : n ≤ most = leb-true n most (both_true (nat_le least n) (nat_le n most) h).1 in
    decimal_word n (omega arith)

time_word : (least most ns : ℕ) → most ≤ 4294967295 → is_time_within least most ns ≡ true → is_word (time_text ns) ≡ true
time_word least most ns small h = number_word least most (ns / 1000000) small (both_true (nat_eq (ns % 1000000) 0) (is_within least most (ns / 1000000)) h).1

small_enough : (n : ℕ) → nat_le n 4294967295 ≡ true → n ≤ 4294967295
small_enough n h = leb-true n 4294967295 h

setting_words_fit : (k : Setting) → setting_fits k ≡ true → list_all is_word (codes "set" ∷ setting_name k ∷ setting_value k ∷ []) ≡ true
setting_words_fit (setting.Latency v) h = true_both _ _ (time_word 0 600000 v (omega arith) h) refl
setting_words_fit (setting.Mode Plain) h = refl
setting_words_fit (setting.Mode Slave) h = refl
setting_words_fit (setting.Rtx true) h = refl
setting_words_fit (setting.Rtx false) h = refl
setting_words_fit (setting.RtxDelay v) h = true_both _ _ (time_word 0 60000 v (omega arith) h) refl
setting_words_fit (setting.RtxRetry v) h = true_both _ _ (time_word 1 60000 v (omega arith) h) refl
setting_words_fit (setting.RtxMax v) h = true_both _ _ (number_word 0 255 v (omega arith) h) refl
setting_words_fit (setting.Reorder v) h = true_both _ _ (number_word 0 100 v (omega arith) h) refl
setting_words_fit (setting.Dropout v) h = true_both _ _ (number_word 1 30000 v (omega arith) h) refl
setting_words_fit (setting.Misorder v) h = true_both _ _ (number_word 0 1000 v (omega arith) h) refl
setting_words_fit (setting.Probation v) h = true_both _ _ (number_word 0 16 v (omega arith) h) refl
setting_words_fit (setting.Faststart v) h = true_both _ _ (number_word 0 1000 v (omega arith) h) refl
setting_words_fit (setting.Report v) h = true_both _ _ (time_word 0 600000 v (omega arith) h) refl
setting_words_fit (setting.Timeout v) h = true_both _ _ (time_word 1 600000 v (omega arith) h) refl
setting_words_fit (setting.History v) h = true_both _ _ (number_word 1 4096 v (omega arith) h) refl
setting_words_fit (setting.Ssrc v) h = true_both _ _ (ssrc_word v h) refl

action_words_fit : (a : Action) → action_fits a ≡ true → list_all is_word (action_words a) ≡ true
action_words_fit action.Clock h = refl
action_words_fit (action.FlushStart s) h = true_both _ _ (number_word 0 7 s (omega arith) h) refl
action_words_fit (action.FlushStop s) h = true_both _ _ (number_word 0 7 s (omega arith) h) refl
action_words_fit (action.Latency s ns) h =
    let e = both_true (is_within 0 7 s) (is_time_within 0 600000 ns) h in
    true_both _ _ (number_word 0 7 s (omega arith) e.0) (true_both _ _ (time_word 0 600000 ns (omega arith) e.1) refl)

words_fit : (e : Entry) → entry_fits e ≡ true → list_all is_word (entry_words e) ≡ true
words_fit (entry.Session l) h =
    let a = both_true (is_within 0 7 l.session && is_within 1 65535 l.rtp) (is_within 1 65535 l.rtcp) h in
    let b = both_true (is_within 0 7 l.session) (is_within 1 65535 l.rtp) a.0 in
    true_both _ _ (number_word 0 7 l.session (omega arith) b.0) (true_both _ _ (number_word 1 65535 l.rtp (omega arith) b.1) (true_both _ _ (number_word 1 65535 l.rtcp (omega arith) a.1) refl))
words_fit (entry.Pt l) h =
    let a = both_true (is_within 0 7 l.session && is_within 0 127 l.pt) (is_within 1 1000000 l.rate) h in
    let b = both_true (is_within 0 7 l.session) (is_within 0 127 l.pt) a.0 in
    true_both _ _ (number_word 0 7 l.session (omega arith) b.0) (true_both _ _ (number_word 0 127 l.pt (omega arith) b.1) (true_both _ _ (number_word 1 1000000 l.rate (omega arith) a.1) refl))
words_fit (entry.Rtx l) h =
    let a = both_true (is_within 0 7 l.session && is_within 0 127 l.pt && is_within 0 7 l.osession) (is_within 0 127 l.apt) h in
    let b = both_true (is_within 0 7 l.session && is_within 0 127 l.pt) (is_within 0 7 l.osession) a.0 in
    let c = both_true (is_within 0 7 l.session) (is_within 0 127 l.pt) b.0 in
    true_both _ _ (number_word 0 7 l.session (omega arith) c.0) (true_both _ _ (number_word 0 127 l.pt (omega arith) c.1)
    (true_both _ _ (number_word 0 7 l.osession (omega arith) b.1) (true_both _ _ (number_word 0 127 l.apt (omega arith) a.1) refl)))
words_fit (entry.Fid f) h =
    let a = both_true (is_within 0 7 f.session && nat_lt f.ssrc (2 ^ 32)) (nat_lt f.rtx_ssrc (2 ^ 32)) h in
    let b = both_true (is_within 0 7 f.session) (nat_lt f.ssrc (2 ^ 32)) a.0 in
    true_both _ _ (number_word 0 7 f.session (omega arith) b.0) (true_both _ _ (ssrc_word f.ssrc b.1) (true_both _ _ (ssrc_word f.rtx_ssrc a.1) refl))
words_fit (entry.Setting k) h = setting_words_fit k h
words_fit (entry.Timed i) h =
    let e = both_true (is_time_within 0 4294967295 i.time) (action_fits i.action) h in
    true_both _ _ (time_word 0 4294967295 i.time (omega arith) e.0) (action_words_fit i.action e.1)

-- ---- they have a form and values

mode_again : (m : Mode) → mode_of (mode_text m) ≡ Ok m
unfolding mode_of
mode_again Plain = refl
mode_again Slave = refl

switch_again : (b : Bool) → switch_of (switch_text b) ≡ Ok b
unfolding switch_of
switch_again true = refl
switch_again false = refl

setting_again : (k : Setting) → setting_fits k ≡ true → setting_of (setting_name k) (setting_value k) ≡ Ok k
unfolding setting_of
setting_again (setting.Latency v) h = ap (gives setting.Latency) (time_again 0 600000 v (omega arith) h)
setting_again (setting.Mode v) h = ap (gives setting.Mode) (mode_again v)
setting_again (setting.Rtx v) h = ap (gives setting.Rtx) (switch_again v)
setting_again (setting.RtxDelay v) h = ap (gives setting.RtxDelay) (time_again 0 60000 v (omega arith) h)
setting_again (setting.RtxRetry v) h = ap (gives setting.RtxRetry) (time_again 1 60000 v (omega arith) h)
setting_again (setting.RtxMax v) h = ap (gives setting.RtxMax) (number_again 0 255 v (omega arith) h)
setting_again (setting.Reorder v) h = ap (gives setting.Reorder) (number_again 0 100 v (omega arith) h)
setting_again (setting.Dropout v) h = ap (gives setting.Dropout) (number_again 1 30000 v (omega arith) h)
setting_again (setting.Misorder v) h = ap (gives setting.Misorder) (number_again 0 1000 v (omega arith) h)
setting_again (setting.Probation v) h = ap (gives setting.Probation) (number_again 0 16 v (omega arith) h)
setting_again (setting.Faststart v) h = ap (gives setting.Faststart) (number_again 0 1000 v (omega arith) h)
setting_again (setting.Report v) h = ap (gives setting.Report) (time_again 0 600000 v (omega arith) h)
setting_again (setting.Timeout v) h = ap (gives setting.Timeout) (time_again 1 600000 v (omega arith) h)
setting_again (setting.History v) h = ap (gives setting.History) (number_again 1 4096 v (omega arith) h)
setting_again (setting.Ssrc v) h = ap (gives setting.Ssrc) (ssrc_again v h)

action_again : (a : Action) → action_fits a ≡ true → action_of (written_action_of a) ≡ Ok a
unfolding action_of
action_again action.Clock h = refl
action_again (action.FlushStart s) h = ap (λ r. r >>= λ n. Ok (action.FlushStart n)) (number_again 0 7 s (omega arith) h)
action_again (action.FlushStop s) h = ap (λ r. r >>= λ n. Ok (action.FlushStop n)) (number_again 0 7 s (omega arith) h)
action_again (action.Latency s ns) h =
    let e = both_true (is_within 0 7 s) (is_time_within 0 600000 ns) h in
    ap (λ r. r >>= λ n. time_in 0 600000 (time_text ns) >>= λ t. Ok (action.Latency n t)) (number_again 0 7 s (omega arith) e.0)
    ∙ ap (λ r. r >>= λ t. Ok (action.Latency s t)) (time_again 0 600000 ns (omega arith) e.1)

entry_again : (e : Entry) → entry_fits e ≡ true → entry_of (written_of e) ≡ Ok e
unfolding entry_of session_line pt_line rtx_line fid_line item_of
entry_again (entry.Session l) h =
    let a = both_true (is_within 0 7 l.session && is_within 1 65535 l.rtp) (is_within 1 65535 l.rtcp) h in
    let b = both_true (is_within 0 7 l.session) (is_within 1 65535 l.rtp) a.0 in
    ap (λ r. as_entry entry.Session (r >>= λ s. number_in 1 65535 (decimal l.rtp) >>= λ p. number_in 1 65535 (decimal l.rtcp) >>= λ q. Ok (record { session = s; rtp = p; rtcp = q }))) (number_again 0 7 l.session (omega arith) b.0)
    ∙ ap (λ r. as_entry entry.Session (r >>= λ p. number_in 1 65535 (decimal l.rtcp) >>= λ q. Ok (record { session = l.session; rtp = p; rtcp = q }))) (number_again 1 65535 l.rtp (omega arith) b.1)
    ∙ ap (λ r. as_entry entry.Session (r >>= λ q. Ok (record { session = l.session; rtp = l.rtp; rtcp = q }))) (number_again 1 65535 l.rtcp (omega arith) a.1)
entry_again (entry.Pt l) h =
    let a = both_true (is_within 0 7 l.session && is_within 0 127 l.pt) (is_within 1 1000000 l.rate) h in
    let b = both_true (is_within 0 7 l.session) (is_within 0 127 l.pt) a.0 in
    ap (λ r. as_entry entry.Pt (r >>= λ s. number_in 0 127 (decimal l.pt) >>= λ p. number_in 1 1000000 (decimal l.rate) >>= λ q. Ok (record { session = s; pt = p; rate = q }))) (number_again 0 7 l.session (omega arith) b.0)
    ∙ ap (λ r. as_entry entry.Pt (r >>= λ p. number_in 1 1000000 (decimal l.rate) >>= λ q. Ok (record { session = l.session; pt = p; rate = q }))) (number_again 0 127 l.pt (omega arith) b.1)
    ∙ ap (λ r. as_entry entry.Pt (r >>= λ q. Ok (record { session = l.session; pt = l.pt; rate = q }))) (number_again 1 1000000 l.rate (omega arith) a.1)
entry_again (entry.Rtx l) h =
    let a = both_true (is_within 0 7 l.session && is_within 0 127 l.pt && is_within 0 7 l.osession) (is_within 0 127 l.apt) h in
    let b = both_true (is_within 0 7 l.session && is_within 0 127 l.pt) (is_within 0 7 l.osession) a.0 in
    let c = both_true (is_within 0 7 l.session) (is_within 0 127 l.pt) b.0 in
    ap (λ r. as_entry entry.Rtx (r >>= λ s. number_in 0 127 (decimal l.pt) >>= λ p. number_in 0 7 (decimal l.osession) >>= λ o. number_in 0 127 (decimal l.apt) >>= λ q. Ok (record { session = s; pt = p; osession = o; apt = q }))) (number_again 0 7 l.session (omega arith) c.0)
    ∙ ap (λ r. as_entry entry.Rtx (r >>= λ p. number_in 0 7 (decimal l.osession) >>= λ o. number_in 0 127 (decimal l.apt) >>= λ q. Ok (record { session = l.session; pt = p; osession = o; apt = q }))) (number_again 0 127 l.pt (omega arith) c.1)
    ∙ ap (λ r. as_entry entry.Rtx (r >>= λ o. number_in 0 127 (decimal l.apt) >>= λ q. Ok (record { session = l.session; pt = l.pt; osession = o; apt = q }))) (number_again 0 7 l.osession (omega arith) b.1)
    ∙ ap (λ r. as_entry entry.Rtx (r >>= λ q. Ok (record { session = l.session; pt = l.pt; osession = l.osession; apt = q }))) (number_again 0 127 l.apt (omega arith) a.1)
entry_again (entry.Fid f) h =
    let a = both_true (is_within 0 7 f.session && nat_lt f.ssrc (2 ^ 32)) (nat_lt f.rtx_ssrc (2 ^ 32)) h in
    let b = both_true (is_within 0 7 f.session) (nat_lt f.ssrc (2 ^ 32)) a.0 in
    ap (λ r. as_entry entry.Fid (r >>= λ s. ssrc_in (ssrc_text f.ssrc) >>= λ p. ssrc_in (ssrc_text f.rtx_ssrc) >>= λ q. Ok (record { session = s; ssrc = p; rtx_ssrc = q }))) (number_again 0 7 f.session (omega arith) b.0)
    ∙ ap (λ r. as_entry entry.Fid (r >>= λ p. ssrc_in (ssrc_text f.rtx_ssrc) >>= λ q. Ok (record { session = f.session; ssrc = p; rtx_ssrc = q }))) (ssrc_again f.ssrc b.1)
    ∙ ap (λ r. as_entry entry.Fid (r >>= λ q. Ok (record { session = f.session; ssrc = f.ssrc; rtx_ssrc = q }))) (ssrc_again f.rtx_ssrc a.1)
entry_again (entry.Setting k) h = ap (as_entry entry.Setting) (setting_again k h)
entry_again (entry.Timed i) h =
    let e = both_true (is_time_within 0 4294967295 i.time) (action_fits i.action) h in
    ap (λ r. as_entry entry.Timed (r >>= λ t. action_of (written_action_of i.action) >>= λ a. Ok (record { time = t; action = a }))) (time_again 0 4294967295 i.time (omega arith) e.0)
    ∙ ap (λ r. as_entry entry.Timed (r >>= λ a. Ok (record { time = i.time; action = a }))) (action_again i.action e.1)

at_form_again : (t : List ℕ) (a : Action) → form_of (codes "at" ∷ t ∷ action_words a) ≡ Some (At t (written_action_of a))
unfolding form_behind action_form
at_form_again t action.Clock = refl
at_form_again t (action.FlushStart s) = refl
at_form_again t (action.FlushStop s) = refl
at_form_again t (action.Latency s ns) = refl

form_again : (e : Entry) → form_of (entry_words e) ≡ Some (written_of e)
unfolding form_behind
form_again (entry.Session l) = refl
form_again (entry.Pt l) = refl
form_again (entry.Rtx l) = refl
form_again (entry.Fid f) = refl
form_again (entry.Setting k) = refl
form_again (entry.Timed i) = at_form_again (time_text i.time) i.action

not_passed_over : (e : Entry) → is_passed_over (entry_words e) ≡ false
not_passed_over (entry.Session l) = refl
not_passed_over (entry.Pt l) = refl
not_passed_over (entry.Rtx l) = refl
not_passed_over (entry.Fid f) = refl
not_passed_over (entry.Setting k) = refl
not_passed_over (entry.Timed i) = refl

-- ---- the line

pub text_fits : (e : Entry) → entry_fits e ≡ true → is_text (entry_text e) ≡ true
text_fits e h = ap is_text (text_words e) ∙ text_of_words (entry_words e) (words_fit e h)

-- whether a line that isn't timed stands behind a timed one
abbrev pub is_out_of_order : Facts → Entry → Bool
is_out_of_order f (entry.Timed i) = false
is_out_of_order f e = nat_lt 0 (length f.items)

in_order : (f : Facts) (e : Entry) → is_out_of_order f e ≡ false → (not (is_timed (written_of e)) && nat_lt 0 (length f.items)) ≡ false
in_order f (entry.Session l) h = h
in_order f (entry.Pt l) h = h
in_order f (entry.Rtx l) h = h
in_order f (entry.Fid l) h = h
in_order f (entry.Setting k) h = h
in_order f (entry.Timed i) h = refl

pub line_again : (f : Facts) (e : Entry) → entry_fits e ≡ true → cause_of f e ≡ None → is_out_of_order f e ≡ false → line_behind f (entry_text e) ≡ Ok (Some e)
unfolding entry_in_line entry_of_form
line_again f e fits none order =
    let words : entry_words e ≡ words_of (entry_text e) = sym (ap words_of (text_words e) ∙ words_again (entry_words e) (words_fit e fits)) in
    line_said f (entry_text e) (entry_words e) e words (not_passed_over e)
    (ap (λ b. if b then entry_of_form f (form_of (entry_words e)) else Err cause.Text) (text_fits e fits)
    ∙ ap (entry_of_form f) (form_again e)
    ∙ ap (λ b. if b then Err cause.Order else (entry_of (written_of e) >>= λ k. unless (cause_of f k) k)) (in_order f e order)
    ∙ ap (λ r. r >>= λ k. unless (cause_of f k) k) (entry_again e fits)
    ∙ ap (λ c. unless c e) none)
