-- The values that are read are in their ranges.
use Rattle.std.proofs.Common.{◌≡◌, ◌<◌, ◌≤◌, ◌+◌, ◌*◌, ◌^◌, ℕ, suc, List, [], ◌∷◌, length, Bool, true, false, ◌&&◌, Result, Ok, Err, subst, refl, arith, nat_eq, nat_le, nat_lt, codes, bytes_eq, if◌then◌else◌}
use Rattle.std.specs.List.{list_all}
use Rattle.std.specs.Char.{is_digit, digit_value}
use Rattle.std.specs.Str.Parse.{digits_value_after, digits_value}
use Rattle.std.proofs.lemmas.Bool.{ltb-true, lt-ltb, eqb-true}
use Rattle.std.proofs.Math.Nat.{mul-le-mul_right, pow-suc}
use Rattle.rtp_units.specs.declared.shared.RtxLine.{RtxLine}
use Rattle.rtp_units.specs.declared.shared.Fid.{Fid}
use Rattle.script_lang.specs.declared.fault.ScriptCause.{ScriptCause}
use Rattle.script_lang.specs.declared.fault.ScriptCause.TheVariants.{Number, Ssrc, Word}
use Rattle.script_lang.specs.declared.script.SessionLine.{SessionLine}
use Rattle.script_lang.specs.declared.script.PtLine.{PtLine}
use Rattle.script_lang.specs.declared.script.Item.{Item}
use Rattle.script_lang.specs.declared.script.Action.{Action}
use Rattle.script_lang.specs.declared.script.Action.TheVariants as action
use Rattle.script_lang.specs.declared.setting.Setting.{Setting}
use Rattle.script_lang.specs.declared.setting.Setting.TheVariants as setting
use Rattle.script_lang.specs.declared.entry.Entry.{Entry}
use Rattle.script_lang.specs.declared.entry.Entry.TheVariants as entry
use Rattle.script_lang.specs.Numbers.{number_in, time_in, ssrc_in, is_number, is_ssrc}
use Rattle.script_lang.specs.Settings.{mode_of, switch_of, gives, setting_of, setting_fits, is_within, is_time_within}
use Rattle.script_lang.specs.Forms.{WrittenAction, Clock, FlushStart, FlushStop, Latency, WrittenLine, Session, Pt, Rtx, Fid as FidForm, Setting as SettingForm, At}
use Rattle.script_lang.specs.Entries.{session_line, pt_line, rtx_line, fid_line, action_of, item_of, entry_of, as_entry, session_in, port_in, pt_in, session_fits, pt_fits, rtx_fits, fid_fits, action_fits, item_fits, entry_fits}
use Rattle.script_lang.proofs.BoolLemmas.{both_true, true_both, bind_ok, cond_ok}
use Rattle.script_lang.proofs.NumberLemmas.{times_million}

pub number_fits : (least most : ℕ) (w : List ℕ) (n : ℕ) → number_in least most w ≡ Ok n → is_within least most n ≡ true
unfolding number_in
number_fits least most w n h =
    let c = cond_ok (is_number w && nat_le least (digits_value 10 w) && nat_le (digits_value 10 w) most) (digits_value 10 w) n Number h in
    let a = both_true (is_number w && nat_le least (digits_value 10 w)) (nat_le (digits_value 10 w) most) c.0 in
    let b = both_true (is_number w) (nat_le least (digits_value 10 w)) a.0 in
    subst (λ k. is_within least most k ≡ true) c.1 (true_both _ _ b.1 a.1)

pub time_fits : (least most : ℕ) (w : List ℕ) (ns : ℕ) → time_in least most w ≡ Ok ns → is_time_within least most ns ≡ true
unfolding time_in
time_fits least most w ns h =
    let m = bind_ok (number_in least most w) (λ ms. Ok (ms * 1000000)) ns h in
    let e : m.0 * 1000000 ≡ ns = cc in
    subst (λ k. is_time_within least most k ≡ true) e (times_million least most m.0 (number_fits least most w m.0 m.1))

-- eight digits stay below 2^32
value_below : (v : ℕ) (ds : List ℕ) → list_all (λ c. is_digit c 16) ds ≡ true → digits_value_after 16 v ds < (v + 1) * 16 ^ length ds
value_below v [] h = omega arith
value_below v (c ∷ cs) h =
    let e = both_true (is_digit c 16) (list_all (λ c. is_digit c 16) cs) h in
    let digit : digit_value c < 16 = ltb-true (digit_value c) 16 e.0 in
    let rest : digits_value_after 16 (v * 16 + digit_value c) cs < (v * 16 + digit_value c + 1) * 16 ^ length cs = value_below (v * 16 + digit_value c) cs e.1 in
    let more : v * 16 + digit_value c + 1 ≤ (v + 1) * 16 = omega (arith, digit) in
    let grown : (v * 16 + digit_value c + 1) * 16 ^ length cs ≤ (v + 1) * 16 * 16 ^ length cs = mul-le-mul_right (16 ^ length cs) more in
    let power : 16 ^ suc (length cs) ≡ 16 ^ length cs * 16 = pow-suc 16 (length cs) in
    let out : digits_value_after 16 (v * 16 + digit_value c) cs < (v + 1) * (16 ^ length cs * 16) = omega (arith, rest, grown) in
    rw power out

pub ssrc_fits : (w : List ℕ) (n : ℕ) → ssrc_in w ≡ Ok n → nat_lt n (2 ^ 32) ≡ true
unfolding ssrc_in
ssrc_fits w n h =
    let c = cond_ok (is_ssrc w) (digits_value 16 w) n Ssrc h in
    let a = both_true (nat_eq (length w) 8) (list_all (λ c. is_digit c 16) w) c.0 in
    let eight : length w ≡ 8 = eqb-true (length w) 8 a.0 in
    let below : digits_value 16 w < (0 + 1) * 16 ^ length w = value_below 0 w a.1 in
    let bound : digits_value 16 w < (0 + 1) * 16 ^ 8 = rw eight at below in
    lt-ltb n (2 ^ 32) (omega (arith, bound, c.1))

-- ---- settings

gives_ok : {A : Type 0} (make : A → Setting) (r : Result A ScriptCause) (k : Setting) → gives make r ≡ Ok k → (x : A) × (r ≡ Ok x) × (make x ≡ k)
gives_ok make (Ok x) k h = (x, refl, cc)
gives_ok make (Err e) k h = absurd (cc)

no_ok : {A C : Type 0} (x : C) (k : A) → Err x ≡ Ok k → ⊥
no_ok x k h = cc

-- what is read fits, if it is read
record Fits (r : Result Setting ScriptCause) : Type 0 where
  fits : (k : Setting) → r ≡ Ok k → setting_fits k ≡ true

either : (b : Bool) (x y : Result Setting ScriptCause) → Fits x → Fits y → Fits (if b then x else y)
either true x y f g = f
either false x y f g = g

-- a value that fits makes a setting that fits
made : {A : Type 0} (make : A → Setting) (r : Result A ScriptCause) → ((x : A) → r ≡ Ok x → setting_fits (make x) ≡ true) → Fits (gives make r)
made make r f = record { fits = λ k h. let g = gives_ok make r k h in subst (λ k. setting_fits k ≡ true) g.2 (f g.0 g.1) }

pub setting_of_fits : (name value : List ℕ) (k : Setting) → setting_of name value ≡ Ok k → setting_fits k ≡ true
unfolding setting_of
setting_of_fits name value k h =
    let f0 = made setting.Latency (time_in 0 600000 value) (time_fits 0 600000 value) in
    let f1 = made setting.Mode (mode_of value) (λ x e. refl) in
    let f2 = made setting.Rtx (switch_of value) (λ x e. refl) in
    let f3 = made setting.RtxDelay (time_in 0 60000 value) (time_fits 0 60000 value) in
    let f4 = made setting.RtxRetry (time_in 1 60000 value) (time_fits 1 60000 value) in
    let f5 = made setting.RtxMax (number_in 0 255 value) (number_fits 0 255 value) in
    let f6 = made setting.Reorder (number_in 0 100 value) (number_fits 0 100 value) in
    let f7 = made setting.Dropout (number_in 1 30000 value) (number_fits 1 30000 value) in
    let f8 = made setting.Misorder (number_in 0 1000 value) (number_fits 0 1000 value) in
    let f9 = made setting.Probation (number_in 0 16 value) (number_fits 0 16 value) in
    let f10 = made setting.Faststart (number_in 0 1000 value) (number_fits 0 1000 value) in
    let f11 = made setting.Report (time_in 0 600000 value) (time_fits 0 600000 value) in
    let f12 = made setting.Timeout (time_in 1 600000 value) (time_fits 1 600000 value) in
    let f13 = made setting.History (number_in 1 4096 value) (number_fits 1 4096 value) in
    let f14 = made setting.Ssrc (ssrc_in value) (ssrc_fits value) in
    let g15 : Fits (Err Word) = record { fits = λ k e. absurd (no_ok Word k e) } in
    let g14 = either (bytes_eq name (codes "ssrc")) _ _ f14 g15 in
    let g13 = either (bytes_eq name (codes "history")) _ _ f13 g14 in
    let g12 = either (bytes_eq name (codes "timeout")) _ _ f12 g13 in
    let g11 = either (bytes_eq name (codes "report")) _ _ f11 g12 in
    let g10 = either (bytes_eq name (codes "faststart")) _ _ f10 g11 in
    let g9 = either (bytes_eq name (codes "probation")) _ _ f9 g10 in
    let g8 = either (bytes_eq name (codes "misorder")) _ _ f8 g9 in
    let g7 = either (bytes_eq name (codes "dropout")) _ _ f7 g8 in
    let g6 = either (bytes_eq name (codes "reorder")) _ _ f6 g7 in
    let g5 = either (bytes_eq name (codes "rtx-max")) _ _ f5 g6 in
    let g4 = either (bytes_eq name (codes "rtx-retry")) _ _ f4 g5 in
    let g3 = either (bytes_eq name (codes "rtx-delay")) _ _ f3 g4 in
    let g2 = either (bytes_eq name (codes "rtx")) _ _ f2 g3 in
    let g1 = either (bytes_eq name (codes "mode")) _ _ f1 g2 in
    let g0 = either (bytes_eq name (codes "latency")) _ _ f0 g1 in
    g0.fits k h

-- ---- lines

session_line_fits : (s rtp rtcp : List ℕ) (l : SessionLine) → session_line s rtp rtcp ≡ Ok l → session_fits l ≡ true
unfolding session_line
session_line_fits s rtp rtcp l h =
    let a = bind_ok (session_in s) _ l h in
    let b = bind_ok (port_in rtp) _ l a.2 in
    let c = bind_ok (port_in rtcp) _ l b.2 in
    let e : record { session = a.0; rtp = b.0; rtcp = c.0 } ≡ l = cc in
    subst (λ l. session_fits l ≡ true) e (true_both _ _ (true_both _ _ (number_fits 0 7 s a.0 a.1) (number_fits 1 65535 rtp b.0 b.1)) (number_fits 1 65535 rtcp c.0 c.1))

pt_line_fits : (s pt rate : List ℕ) (l : PtLine) → pt_line s pt rate ≡ Ok l → pt_fits l ≡ true
unfolding pt_line
pt_line_fits s pt rate l h =
    let a = bind_ok (session_in s) _ l h in
    let b = bind_ok (pt_in pt) _ l a.2 in
    let c = bind_ok (number_in 1 1000000 rate) _ l b.2 in
    let e : record { session = a.0; pt = b.0; rate = c.0 } ≡ l = cc in
    subst (λ l. pt_fits l ≡ true) e (true_both _ _ (true_both _ _ (number_fits 0 7 s a.0 a.1) (number_fits 0 127 pt b.0 b.1)) (number_fits 1 1000000 rate c.0 c.1))

rtx_line_fits : (s pt o apt : List ℕ) (l : RtxLine) → rtx_line s pt o apt ≡ Ok l → rtx_fits l ≡ true
unfolding rtx_line
rtx_line_fits s pt o apt l h =
    let a = bind_ok (session_in s) _ l h in
    let b = bind_ok (pt_in pt) _ l a.2 in
    let c = bind_ok (session_in o) _ l b.2 in
    let d = bind_ok (pt_in apt) _ l c.2 in
    let e : record { session = a.0; pt = b.0; osession = c.0; apt = d.0 } ≡ l = cc in
    subst (λ l. rtx_fits l ≡ true) e (true_both _ _ (true_both _ _ (true_both _ _ (number_fits 0 7 s a.0 a.1) (number_fits 0 127 pt b.0 b.1)) (number_fits 0 7 o c.0 c.1)) (number_fits 0 127 apt d.0 d.1))

fid_line_fits : (s x y : List ℕ) (l : Fid) → fid_line s x y ≡ Ok l → fid_fits l ≡ true
unfolding fid_line
fid_line_fits s x y l h =
    let a = bind_ok (session_in s) _ l h in
    let b = bind_ok (ssrc_in x) _ l a.2 in
    let c = bind_ok (ssrc_in y) _ l b.2 in
    let e : record { session = a.0; ssrc = b.0; rtx_ssrc = c.0 } ≡ l = cc in
    subst (λ l. fid_fits l ≡ true) e (true_both _ _ (true_both _ _ (number_fits 0 7 s a.0 a.1) (ssrc_fits x b.0 b.1)) (ssrc_fits y c.0 c.1))

action_of_fits : (w : WrittenAction) (a : Action) → action_of w ≡ Ok a → action_fits a ≡ true
unfolding action_of
action_of_fits Clock a h = let e : action.Clock ≡ a = cc in subst (λ a. action_fits a ≡ true) e refl
action_of_fits (FlushStart s) a h =
    let n = bind_ok (session_in s) _ a h in
    let e : action.FlushStart n.0 ≡ a = cc in
    subst (λ a. action_fits a ≡ true) e (number_fits 0 7 s n.0 n.1)
action_of_fits (FlushStop s) a h =
    let n = bind_ok (session_in s) _ a h in
    let e : action.FlushStop n.0 ≡ a = cc in
    subst (λ a. action_fits a ≡ true) e (number_fits 0 7 s n.0 n.1)
action_of_fits (Latency s latency) a h =
    let n = bind_ok (session_in s) _ a h in
    let t = bind_ok (time_in 0 600000 latency) _ a n.2 in
    let e : action.Latency n.0 t.0 ≡ a = cc in
    subst (λ a. action_fits a ≡ true) e (true_both _ _ (number_fits 0 7 s n.0 n.1) (time_fits 0 600000 latency t.0 t.1))

item_of_fits : (time : List ℕ) (w : WrittenAction) (i : Item) → item_of time w ≡ Ok i → item_fits i ≡ true
unfolding item_of
item_of_fits time w i h =
    let a = bind_ok (time_in 0 4294967295 time) _ i h in
    let b = bind_ok (action_of w) _ i a.2 in
    let e : record { time = a.0; action = b.0 } ≡ i = cc in
    subst (λ i. item_fits i ≡ true) e (true_both _ _ (time_fits 0 4294967295 time a.0 a.1) (action_of_fits w b.0 b.1))

as_entry_ok : {A : Type 0} (make : A → Entry) (r : Result A ScriptCause) (k : Entry) → as_entry make r ≡ Ok k → (x : A) × (r ≡ Ok x) × (make x ≡ k)
as_entry_ok make (Ok x) k h = (x, refl, cc)
as_entry_ok make (Err e) k h = absurd (cc)

pub entry_of_fits : (line : WrittenLine) (e : Entry) → entry_of line ≡ Ok e → entry_fits e ≡ true
unfolding entry_of
entry_of_fits (Session s rtp rtcp) e h = let g = as_entry_ok entry.Session _ e h in subst (λ e. entry_fits e ≡ true) g.2 (session_line_fits s rtp rtcp g.0 g.1)
entry_of_fits (Pt s pt rate) e h = let g = as_entry_ok entry.Pt _ e h in subst (λ e. entry_fits e ≡ true) g.2 (pt_line_fits s pt rate g.0 g.1)
entry_of_fits (Rtx s pt o apt) e h = let g = as_entry_ok entry.Rtx _ e h in subst (λ e. entry_fits e ≡ true) g.2 (rtx_line_fits s pt o apt g.0 g.1)
entry_of_fits (FidForm s x y) e h = let g = as_entry_ok entry.Fid _ e h in subst (λ e. entry_fits e ≡ true) g.2 (fid_line_fits s x y g.0 g.1)
entry_of_fits (SettingForm name value) e h = let g = as_entry_ok entry.Setting _ e h in subst (λ e. entry_fits e ≡ true) g.2 (setting_of_fits name value g.0 g.1)
entry_of_fits (At time w) e h = let g = as_entry_ok entry.Timed _ e h in subst (λ e. entry_fits e ≡ true) g.2 (item_of_fits time w g.0 g.1)
