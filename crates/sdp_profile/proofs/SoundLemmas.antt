-- What sections without a fault give is sound.
use Rattle.std.proofs.Common.{◌≡◌, ◌+◌, ℕ, List, [], ◌∷◌, ◌++◌, length, map, Bool, true, false, ◌&&◌, ◌||◌, not, Option, Some, None, Result, Ok, Err, sym, ◌∙◌, ap, subst, refl, arith, append-nil, append_assoc, nat_eq, nat_le, nat_lt, length-append}
use Rattle.std.specs.Prelude.{is_some, if◌then◌else◌, option_map, option_and_then, codes}
use Rattle.std.specs.List.{list_all, list_any, filter_map, cons_option}
use Rattle.std.proofs.lemmas.Option.{none-some, option_and_then_some}
use Rattle.std.proofs.lemmas.Bool.Decides.{nat_tests}
use Rattle.std.proofs.lemmas.List.Folds.{list_any-append}
use Rattle.rtp_units.specs.declared.shared.RtxLine.{RtxLine}
use Rattle.rtp_units.specs.declared.shared.Fid.{Fid}
use Rattle.script_lang.specs.declared.script.SessionLine.{SessionLine}
use Rattle.script_lang.specs.declared.script.PtLine.{PtLine}
use Rattle.script_lang.specs.Settings.{is_within}
use Rattle.script_lang.specs.Entries.{session_fits, pt_fits, rtx_fits, fid_fits}
use Rattle.script_lang.specs.Tests.{is_declared, has_port, has_pt, has_rtx, has_ssrc, max_fids}
use Rattle.script_lang.specs.Contents.{each_behind, is_new_session, is_new_pt, is_new_rtx, is_new_fid}
use Rattle.sdp_profile.specs.declared.attribute.Attribute.{Attribute}
use Rattle.sdp_profile.specs.declared.attribute.Attribute.TheVariants as attribute
use Rattle.sdp_profile.specs.declared.attribute.Placed.{Placed}
use Rattle.sdp_profile.specs.declared.format.Format.{Format}
use Rattle.sdp_profile.specs.declared.fault.Fault.{Fault}
use Rattle.sdp_profile.specs.declared.fault.SdpCause.{SdpCause}
use Rattle.sdp_profile.specs.declared.fault.SdpCause.TheVariants as cause
use Rattle.sdp_profile.specs.Text.{less_end}
use Rattle.sdp_profile.specs.Attributes.{placed_of}
use Rattle.sdp_profile.specs.Media.{Media, port_in, media_of_words, is_rtp, is_kept, types_of}
use Rattle.sdp_profile.specs.Formats.{format_in, formats_in, has_media, knows_original, fault_of_formats, as_pt, as_rtx}
use Rattle.sdp_profile.specs.Pairs.{as_fid, fids_of, cause_of_fid, cause_of_pair, refused, fault_of_pairs}
use Rattle.sdp_profile.specs.Sections.{Section, Described, is_muxed, rtcp_in, named_or, rtcp_port, fault_of_lines, fault_of_port, cause_of_session, unless, in_line, fault_of_section, with_session, with_types, with_optional_types, with_media, with_optional_media, media_words, with_section, with_sections}
use Rattle.script_lang.specs.Causes.{◌>>=◌}
use Rattle.sdp_profile.specs.Descriptions.{nothing}
use Rattle.sdp_profile.specs.Sound.{IsSound}
use Rattle.sdp_profile.proofs.ListLemmas.{both_true, true_both, none_true, is_not, not_is, nat_eq_sym, nat_eq_same, nat_eq_is, any_more, any_behind, none_both, none_weaker, none_by_all, all_both, all_weaker, all_given, each_behind-append, each_behind-weaker, all_true, given_twice, passes_if_some, all_back, none_keyed, each_given}
use Rattle.sdp_profile.proofs.NumberLemmas.{number_within}
use Rattle.sdp_profile.proofs.FitsLemmas.{rate_fits, type_fits, is_32, attribute_fits, placed_fits, lines_fit}
use Rattle.sdp_profile.proofs.FormatLemmas.{is_small, AreTypes, are_types, format_given, all_none, format_passes, formats_pass}

-- ---- numbers

at_least_none : (n : ℕ) → nat_le 0 n ≡ true
at_least_none n = grind (arith, nat_tests)

below_more : (k n : ℕ) → nat_lt k n ≡ true → nat_lt k (n + 1) ≡ true
below_more k n h = grind (arith, nat_tests)

below_next : (n : ℕ) → nat_lt n (n + 1) ≡ true
below_next n = grind (arith, nat_tests)

is_not_below : (k n : ℕ) → nat_lt k n ≡ true → nat_eq k n ≡ false
is_not_below k n h = grind (arith, nat_tests)

few_sessions : (n : ℕ) → nat_le 8 n ≡ false → nat_le n 7 ≡ true
few_sessions n h = grind (arith, nat_tests)

a_port : (port : ℕ) → not (nat_eq port 0) ≡ true → nat_le 1 port ≡ true
a_port port h = grind (arith, nat_tests)

next_port : (port : ℕ) → nat_le 1 (port + 1) ≡ true
next_port port = grind (arith, nat_tests)

at_most_port : (port : ℕ) → nat_lt 65535 port ≡ false → nat_le port 65535 ≡ true
at_most_port port h = grind (arith, nat_tests)

one_more_fid : (n : ℕ) → nat_le 64 n ≡ false → nat_le (n + 1) 64 ≡ true
one_more_fid n h = grind (arith, nat_tests)

length_more : {A : Type 0} (xs : List A) (x : A) → length (xs ++ x ∷ []) ≡ length xs + 1
length_more xs x = length-append xs (x ∷ [])

-- ---- what stands

-- The lists are sound, and all that they name are sessions so far.
pub record Stands (d : Described) : Type 0 where
  pub sound : IsSound d
  pub sessions_below : list_all (λ l. nat_lt l.session (length d.sessions)) d.sessions ≡ true
  pub pts_below : list_all (λ l. nat_lt l.session (length d.sessions)) d.pts ≡ true
  pub rtx_below : list_all (λ l. nat_lt l.session (length d.sessions)) d.rtx ≡ true

nothing_stands : Stands nothing
nothing_stands = record {
  sound = record {
    sessions_fit = refl;
    pts_fit = refl;
    rtx_fit = refl;
    fids_fit = refl;
    new_sessions = refl;
    new_pts = refl;
    new_rtx = refl;
    new_fids = refl;
    few_fids = refl;
  };
  sessions_below = refl;
  pts_below = refl;
  rtx_below = refl;
}

-- ---- a section's payload types

-- what a payload type gives
abbrev pt_at : List Placed → ℕ → ℕ → Option PtLine
pt_at lines session pt = option_and_then (as_pt session) (format_in lines pt)

abbrev rtx_at : List Placed → ℕ → ℕ → Option RtxLine
rtx_at lines session pt = option_and_then (as_rtx session) (format_in lines pt)

pts_at : (lines : List Placed) (session : ℕ) (types : List ℕ) → filter_map (as_pt session) (formats_in lines types) ≡ filter_map (pt_at lines session) types
unfolding formats_in
pts_at lines session types = given_twice (as_pt session) (format_in lines) types

rtxs_at : (lines : List Placed) (session : ℕ) (types : List ℕ) → filter_map (as_rtx session) (formats_in lines types) ≡ filter_map (rtx_at lines session) types
unfolding formats_in
rtxs_at lines session types = given_twice (as_rtx session) (format_in lines) types

pt_parts : (b : Bool) (o : Option ℕ) (session pt : ℕ) (l : PtLine) → (if b then None else option_map (λ rate. record { session = session; pt = pt; rate = rate }) o) ≡ Some l
    → (b ≡ false) × (l.session ≡ session) × (l.pt ≡ pt) × (o ≡ Some l.rate)
pt_parts true o session pt l e = absurd (none-some l e)
pt_parts false None session pt l e = absurd (none-some l e)
pt_parts false (Some rate) session pt l e =
    let is : ◌≡◌ {A = PtLine} (record { session = session; pt = pt; rate = rate }) l = cc in
    (refl, sym (ap (λ (x : PtLine). x.session) is), sym (ap (λ (x : PtLine). x.pt) is), ap (λ (x : PtLine). Some x.rate) is)

rtx_parts : (b : Bool) (o : Option ℕ) (session pt : ℕ) (l : RtxLine) → (if b then option_map (λ apt. record { session = session; pt = pt; osession = session; apt = apt }) o else None) ≡ Some l
    → (b ≡ true) × (l.session ≡ session) × (l.pt ≡ pt) × (l.osession ≡ session) × (o ≡ Some l.apt)
rtx_parts false o session pt l e = absurd (none-some l e)
rtx_parts true None session pt l e = absurd (none-some l e)
rtx_parts true (Some apt) session pt l e =
    let is : ◌≡◌ {A = RtxLine} (record { session = session; pt = pt; osession = session; apt = apt }) l = cc in
    (refl, sym (ap (λ (x : RtxLine). x.session) is), sym (ap (λ (x : RtxLine). x.pt) is), sym (ap (λ (x : RtxLine). x.osession) is), ap (λ (x : RtxLine). Some x.apt) is)

-- a `pt` line of a payload type
record PtGiven (session pt : ℕ) (l : PtLine) : Type 0 where
  session_is : l.session ≡ session
  pt_is : l.pt ≡ pt
  rate_within : is_within 1 1000000 l.rate ≡ true

pt_given : (lines : List Placed) (session pt : ℕ) (l : PtLine) → list_all placed_fits lines ≡ true → pt_at lines session pt ≡ Some l → PtGiven session pt l
pt_given lines session pt l fit e = option_and_then_some (as_pt session) (format_in lines pt) l e
    (λ f is given.
    let g = format_given lines pt f fit is in
    let p = pt_parts f.is_rtx f.rate session f.pt l given in
    record {
      session_is = p.1;
      pt_is = p.2 ∙ g.0;
      rate_within = sym (ap rate_fits p.3) ∙ (both_true (rate_fits f.rate) (type_fits f.apt) g.1).0;
    })

-- an `rtx` line of a payload type, and its format
record RtxGiven (lines : List Placed) (session pt : ℕ) (l : RtxLine) : Type 0 where
  format : Format
  format_is : format_in lines pt ≡ Some format
  is_rtx : format.is_rtx ≡ true
  session_is : l.session ≡ session
  pt_is : l.pt ≡ pt
  osession_is : l.osession ≡ session
  apt_is : format.apt ≡ Some l.apt
  apt_small : is_small l.apt ≡ true

rtx_given : (lines : List Placed) (session pt : ℕ) (l : RtxLine) → list_all placed_fits lines ≡ true → rtx_at lines session pt ≡ Some l → RtxGiven lines session pt l
rtx_given lines session pt l fit e = option_and_then_some (as_rtx session) (format_in lines pt) l e
    (λ f is given.
    let g = format_given lines pt f fit is in
    let p = rtx_parts f.is_rtx f.apt session f.pt l given in
    record {
      format = f;
      format_is = is;
      is_rtx = p.0;
      session_is = p.1;
      pt_is = p.2 ∙ g.0;
      osession_is = p.3;
      apt_is = p.4;
      apt_small = sym (ap type_fits p.4) ∙ (both_true (rate_fits f.rate) (type_fits f.apt) g.1).1;
    })

second_false : (a b : Bool) → b ≡ false → (a && b) ≡ false
second_false true b h = h
second_false false b h = refl

-- no earlier line has a type of a new session
none_earlier_pt : (session pt : ℕ) (pts : List PtLine) → list_all (λ l. nat_lt l.session session) pts ≡ true → has_pt pts session pt ≡ false
none_earlier_pt session pt pts below =
    none_by_all (λ (l : PtLine). nat_eq session l.session && nat_eq pt l.pt) (λ l. nat_lt l.session session)
    (λ l lt. ap (λ b. b && nat_eq pt l.pt) (nat_eq_sym session l.session ∙ is_not_below l.session session lt)) pts below

none_earlier_rtx : (session pt : ℕ) (rtx : List RtxLine) → list_all (λ l. nat_lt l.session session) rtx ≡ true → has_rtx rtx session pt ≡ false
none_earlier_rtx session pt rtx below =
    none_by_all (λ (l : RtxLine). nat_eq session l.session && nat_eq pt l.pt) (λ l. nat_lt l.session session)
    (λ l lt. ap (λ b. b && nat_eq pt l.pt) (nat_eq_sym session l.session ∙ is_not_below l.session session lt)) rtx below

none_of_type_pt : (session pt : ℕ) (pts : List PtLine) → list_any (λ l. nat_eq l.pt pt) pts ≡ false → has_pt pts session pt ≡ false
none_of_type_pt session pt pts none =
    none_weaker (λ (l : PtLine). nat_eq session l.session && nat_eq pt l.pt) (λ l. nat_eq l.pt pt) (λ l no. second_false (nat_eq session l.session) _ (nat_eq_sym pt l.pt ∙ no)) pts none

none_of_type_rtx : (session pt : ℕ) (rtx : List RtxLine) → list_any (λ l. nat_eq l.pt pt) rtx ≡ false → has_rtx rtx session pt ≡ false
none_of_type_rtx session pt rtx none =
    none_weaker (λ (l : RtxLine). nat_eq session l.session && nat_eq pt l.pt) (λ l. nat_eq l.pt pt) (λ l no. second_false (nat_eq session l.session) _ (nat_eq_sym pt l.pt ∙ no)) rtx none

-- ---- the new `pt` lines

new_pt : (sessions : List SessionLine) (pts before : List PtLine) (session pt : ℕ) (l : PtLine) → PtGiven session pt l → is_declared sessions session ≡ true
    → list_all (λ l. nat_lt l.session session) pts ≡ true → list_any (λ l. nat_eq l.pt pt) before ≡ false → is_new_pt sessions (pts ++ before) l ≡ true
new_pt sessions pts before session pt l g declared below none =
    true_both (is_declared sessions l.session) _ (ap (is_declared sessions) g.session_is ∙ declared)
    (is_not (has_pt (pts ++ before) l.session l.pt)
    (ap (λ s. has_pt (pts ++ before) s l.pt) g.session_is ∙ ap (has_pt (pts ++ before) session) g.pt_is
    ∙ none_both (λ (q : PtLine). nat_eq session q.session && nat_eq pt q.pt) pts before (none_earlier_pt session pt pts below) (none_of_type_pt session pt before none)))

new_pts : (sessions : List SessionLine) (pts : List PtLine) (lines : List Placed) (session : ℕ) (types : List ℕ) → list_all placed_fits lines ≡ true → AreTypes types → is_declared sessions session ≡ true
    → list_all (λ l. nat_lt l.session session) pts ≡ true → each_behind (is_new_pt sessions) pts (filter_map (pt_at lines session) types) ≡ true
new_pts sessions pts lines session types fit are declared below =
    let named : (t : ℕ) (l : PtLine) → pt_at lines session t ≡ Some l → l.pt ≡ t = λ t l e. (pt_given lines session t l fit e).pt_is in
    rw append-nil at (each_given (pt_at lines session) (λ l. l.pt) named (is_new_pt sessions) (λ t. true) pts
    (λ t before l ok e none. new_pt sessions pts before session t l (pt_given lines session t l fit e) declared below none)
    [] [] (λ k h. refl) types are.distinct (all_true types))

-- ---- the new `rtx` lines

first_hit : (a b : Bool) → a ≡ true → (a || b) ≡ true
first_hit true b h = refl
first_hit false b h = absurd (cc)

second_hit : (a b : Bool) → b ≡ true → (a || b) ≡ true
second_hit true b h = refl
second_hit false b h = h

one_media : (session wanted pt : ℕ) (is_rtx : Bool) (rate : Option ℕ) (rest : List PtLine) (others : Bool) → is_some rate ≡ true
    → ((nat_eq pt wanted && not is_rtx) || others) ≡ true → (others ≡ true → has_pt rest session wanted ≡ true)
    → has_pt (cons_option (if is_rtx then None else option_map (λ rate. record { session = session; pt = pt; rate = rate }) rate) rest) session wanted ≡ true
one_media session wanted pt true rate rest others there h go = go (sym (ap (λ b. b || others) (second_false (nat_eq pt wanted) false refl)) ∙ h)
one_media session wanted pt false None rest others there h go = absurd (cc)
one_media session wanted pt false (Some rate) rest others there h go =
    elim (nat_eq pt wanted) as (λ b. nat_eq pt wanted ≡ b → ((nat_eq session session && nat_eq wanted pt) || has_pt rest session wanted) ≡ true) [
      | true ↦ λ e. first_hit _ _ (true_both (nat_eq session session) _ (nat_eq_same session) (nat_eq_sym wanted pt ∙ e))
      | false ↦ λ e. second_hit _ _ (go (sym (ap (λ b. (b && true) || others) e) ∙ h))
    ] refl

media_pt : (session wanted : ℕ) (formats : List Format) → list_all (λ (f : Format). is_some f.rate) formats ≡ true → has_media formats wanted ≡ true
    → has_pt (filter_map (as_pt session) formats) session wanted ≡ true
media_pt session wanted [] h k = k
media_pt session wanted (f ∷ formats) h k =
    let e = both_true (is_some f.rate) (list_all (λ (g : Format). is_some g.rate) formats) h in
    one_media session wanted f.pt f.is_rtx f.rate (filter_map (as_pt session) formats) (has_media formats wanted) e.0 k (media_pt session wanted formats e.1)

rate_passes : (formats : List Format) (f : Format) → format_passes formats f ≡ true → is_some f.rate ≡ true
rate_passes formats f h = (both_true (is_some f.rate) (not f.is_rtx || knows_original formats f.apt) h).0

knows_if_rtx : (b c : Bool) → b ≡ true → (not b || c) ≡ true → c ≡ true
knows_if_rtx true c e h = h
knows_if_rtx false c e h = absurd (cc)

original_known : (formats : List Format) (f : Format) (apt : ℕ) → format_passes formats f ≡ true → f.is_rtx ≡ true → f.apt ≡ Some apt → has_media formats apt ≡ true
original_known formats f apt h rtx is =
    let known = knows_if_rtx f.is_rtx (knows_original formats f.apt) rtx (both_true (is_some f.rate) (not f.is_rtx || knows_original formats f.apt) h).1 in
    sym (ap (knows_original formats) is) ∙ known

no_pt_at : (lines : List Placed) (session pt : ℕ) (f : Format) → format_in lines pt ≡ Some f → f.is_rtx ≡ true → pt_at lines session pt ≡ None
no_pt_at lines session pt f is rtx =
    ap (option_and_then (as_pt session)) is ∙ ap (λ (b : Bool). if b then None else option_map (λ rate. record { session = session; pt = f.pt; rate = rate }) f.rate) rtx

new_rtx : (sessions : List SessionLine) (pts : List PtLine) (rtx before : List RtxLine) (lines : List Placed) (session pt : ℕ) (types : List ℕ) (l : RtxLine)
    → list_all placed_fits lines ≡ true → list_all (format_passes (formats_in lines types)) (formats_in lines types) ≡ true
    → passes_if_some (format_passes (formats_in lines types)) (format_in lines pt) ≡ true → RtxGiven lines session pt l
    → is_declared sessions session ≡ true → list_all (λ l. nat_lt l.session session) pts ≡ true → list_all (λ l. nat_lt l.session session) rtx ≡ true
    → list_any (λ l. nat_eq l.pt pt) before ≡ false → is_new_rtx sessions (pts ++ filter_map (as_pt session) (formats_in lines types)) (rtx ++ before) l ≡ true
new_rtx sessions pts rtx before lines session pt types l fit all ok g declared pts_low rtx_low none =
    let formats : List Format = formats_in lines types in
    let new : List PtLine = filter_map (as_pt session) formats in
    let here : format_passes formats g.format ≡ true = sym (ap (passes_if_some (format_passes formats)) g.format_is) ∙ ok in
    let rates : list_all (λ (f : Format). is_some f.rate) formats ≡ true = all_weaker (format_passes formats) (λ (f : Format). is_some f.rate) (rate_passes formats) formats all in
    let known : has_media formats l.apt ≡ true = original_known formats g.format l.apt here g.is_rtx g.apt_is in
    let original : has_pt (pts ++ new) session l.apt ≡ true =
    list_any-append (λ (q : PtLine). nat_eq session q.session && nat_eq l.apt q.pt) pts new ∙ second_hit (has_pt pts session l.apt) _ (media_pt session l.apt formats rates known) in
    let named : (t : ℕ) (q : PtLine) → pt_at lines session t ≡ Some q → q.pt ≡ t = λ t q e. (pt_given lines session t q fit e).pt_is in
    let absent : list_any (λ (q : PtLine). nat_eq q.pt pt) new ≡ false =
    ap (list_any (λ (q : PtLine). nat_eq q.pt pt)) (pts_at lines session types)
    ∙ none_keyed (pt_at lines session) (λ q. q.pt) named pt (no_pt_at lines session pt g.format g.format_is g.is_rtx) types in
    let no_pt : has_pt (pts ++ new) session pt ≡ false =
    none_both (λ (q : PtLine). nat_eq session q.session && nat_eq pt q.pt) pts new (none_earlier_pt session pt pts pts_low) (none_of_type_pt session pt new absent) in
    let no_rtx : has_rtx (rtx ++ before) session pt ≡ false =
    none_both (λ (q : RtxLine). nat_eq session q.session && nat_eq pt q.pt) rtx before (none_earlier_rtx session pt rtx rtx_low) (none_of_type_rtx session pt before none) in
    true_both _ _
    (true_both _ _
    (true_both _ _
    (true_both (is_declared sessions l.session) _ (ap (is_declared sessions) g.session_is ∙ declared) (ap (is_declared sessions) g.osession_is ∙ declared))
    (ap (λ s. has_pt (pts ++ new) s l.apt) g.osession_is ∙ original))
    (is_not _ (ap (λ s. has_pt (pts ++ new) s l.pt) g.session_is ∙ ap (has_pt (pts ++ new) session) g.pt_is ∙ no_pt)))
    (is_not _ (ap (λ s. has_rtx (rtx ++ before) s l.pt) g.session_is ∙ ap (has_rtx (rtx ++ before) session) g.pt_is ∙ no_rtx))

formats_opened : (lines : List Placed) (types : List ℕ) (q : Format → Bool) → list_all q (formats_in lines types) ≡ true → list_all q (filter_map (format_in lines) types) ≡ true
unfolding formats_in
formats_opened lines types q h = h

types_pass : (lines : List Placed) (types : List ℕ) → list_all (format_passes (formats_in lines types)) (formats_in lines types) ≡ true
    → list_all (λ t. passes_if_some (format_passes (formats_in lines types)) (format_in lines t)) types ≡ true
types_pass lines types h = all_back (format_passes (formats_in lines types)) (format_in lines) types (formats_opened lines types (format_passes (formats_in lines types)) h)

new_rtxs : (sessions : List SessionLine) (pts : List PtLine) (rtx : List RtxLine) (lines : List Placed) (session : ℕ) (types : List ℕ)
    → list_all placed_fits lines ≡ true → AreTypes types → list_all (format_passes (formats_in lines types)) (formats_in lines types) ≡ true → is_declared sessions session ≡ true
    → list_all (λ l. nat_lt l.session session) pts ≡ true → list_all (λ l. nat_lt l.session session) rtx ≡ true
    → each_behind (is_new_rtx sessions (pts ++ filter_map (as_pt session) (formats_in lines types))) rtx (filter_map (rtx_at lines session) types) ≡ true
new_rtxs sessions pts rtx lines session types fit are all declared pts_low rtx_low =
    let named : (t : ℕ) (l : RtxLine) → rtx_at lines session t ≡ Some l → l.pt ≡ t = λ t l e. (rtx_given lines session t l fit e).pt_is in
    rw append-nil at (each_given (rtx_at lines session) (λ l. l.pt) named (is_new_rtx sessions (pts ++ filter_map (as_pt session) (formats_in lines types)))
    (λ t. passes_if_some (format_passes (formats_in lines types)) (format_in lines t)) rtx
    (λ t before l ok e none. new_rtx sessions pts rtx before lines session t types l fit all ok (rtx_given lines session t l fit e) declared pts_low rtx_low none)
    [] [] (λ k h. refl) types are.distinct (types_pass lines types all))

-- ---- the new pairs

record FidsGiven (sessions : List SessionLine) (earlier fids : List Fid) : Type 0 where
  new : each_behind (is_new_fid sessions) earlier fids ≡ true
  fit : list_all fid_fits fids ≡ true
  few : nat_le (length (earlier ++ fids)) 64 ≡ true

no_more_fids : (sessions : List SessionLine) (earlier fids : List Fid) → FidsGiven sessions (earlier ++ []) fids → FidsGiven sessions earlier fids
no_more_fids sessions earlier fids given = let e = append-nil earlier in record {
  new = sym (ap (λ fs. each_behind (is_new_fid sessions) fs fids) e) ∙ given.new;
  fit = given.fit;
  few = sym (ap (λ fs. nat_le (length (fs ++ fids)) 64) e) ∙ given.few;
}

fid_none : (a b : Bool) → (if a then Some cause.Ssrc else if b then Some cause.Many else None) ≡ None → (a ≡ false) × (b ≡ false)
fid_none true b e = absurd (cc)
fid_none false true e = absurd (cc)
fid_none false false e = (refl, refl)

one_fid : (sessions : List SessionLine) (earlier fids : List Fid) (f : Fid) → is_declared sessions f.session ≡ true → fid_fits f ≡ true → cause_of_fid earlier f ≡ None
    → FidsGiven sessions (earlier ++ f ∷ []) fids → FidsGiven sessions earlier (f ∷ fids)
one_fid sessions earlier fids f declared fits none given =
    let causes = fid_none (nat_eq f.ssrc f.rtx_ssrc || has_ssrc earlier f.session f.ssrc || has_ssrc earlier f.session f.rtx_ssrc) (nat_le max_fids (length earlier)) none in
    let last = none_true (nat_eq f.ssrc f.rtx_ssrc || has_ssrc earlier f.session f.ssrc) (has_ssrc earlier f.session f.rtx_ssrc) causes.0 in
    let both = none_true (nat_eq f.ssrc f.rtx_ssrc) (has_ssrc earlier f.session f.ssrc) last.0 in
    record {
      new = true_both (is_new_fid sessions earlier f) _
          (true_both _ _ (true_both _ _ (true_both (is_declared sessions f.session) _ declared (is_not _ both.0)) (is_not _ both.1)) (is_not _ last.1))
          given.new;
      fit = true_both (fid_fits f) _ fits given.fit;
      few = ap (λ (fs : List Fid). nat_le (length fs) 64) (sym (append_assoc earlier (f ∷ []) fids)) ∙ given.few;
    }

line_fids : (sessions : List SessionLine) (earlier fids : List Fid) (session : ℕ) (a : Attribute) → is_declared sessions session ≡ true → nat_le session 7 ≡ true
    → attribute_fits a ≡ true → cause_of_pair earlier session a ≡ None
    → FidsGiven sessions (earlier ++ cons_option (as_fid session a) []) fids → FidsGiven sessions earlier (cons_option (as_fid session a) fids)
line_fids sessions earlier fids session attribute.Mux declared small fits none given = no_more_fids sessions earlier fids given
line_fids sessions earlier fids session (attribute.Rtcp port) declared small fits none given = no_more_fids sessions earlier fids given
line_fids sessions earlier fids session (attribute.Map pt is_rtx rate) declared small fits none given = no_more_fids sessions earlier fids given
line_fids sessions earlier fids session (attribute.Apt pt apt) declared small fits none given = no_more_fids sessions earlier fids given
line_fids sessions earlier fids session attribute.BadPair declared small fits none given = no_more_fids sessions earlier fids given
line_fids sessions earlier fids session attribute.Other declared small fits none given = no_more_fids sessions earlier fids given
line_fids sessions earlier fids session attribute.Malformed declared small fits none given = no_more_fids sessions earlier fids given
line_fids sessions earlier fids session (attribute.Pair ssrc rtx_ssrc) declared small fits none given =
    let e = both_true (is_32 ssrc) (is_32 rtx_ssrc) fits in
    one_fid sessions earlier fids (record { session = session; ssrc = ssrc; rtx_ssrc = rtx_ssrc }) declared
    (true_both _ _ (true_both (is_within 0 7 session) _ (true_both (nat_le 0 session) _ (at_least_none session) small) e.0) e.1) none given

refused_none : (c : Option SdpCause) (line : ℕ) (others : Option Fault) → refused c line others ≡ None → (c ≡ None) × (others ≡ None)
refused_none None line others e = (refl, e)
refused_none (Some c) line others e = absurd (cc)

no_fids_left : (sessions : List SessionLine) (earlier : List Fid) → nat_le (length earlier) 64 ≡ true → FidsGiven sessions earlier []
no_fids_left sessions earlier few = record { new = refl; fit = refl; few = ap (λ (fs : List Fid). nat_le (length fs) 64) (append-nil earlier) ∙ few }

still_few : (earlier : List Fid) (session : ℕ) (a : Attribute) → nat_le (length earlier) 64 ≡ true → cause_of_pair earlier session a ≡ None → nat_le (length (earlier ++ cons_option (as_fid session a) [])) 64 ≡ true
still_few earlier session attribute.Mux few none = ap (λ (fs : List Fid). nat_le (length fs) 64) (append-nil earlier) ∙ few
still_few earlier session (attribute.Rtcp port) few none = ap (λ (fs : List Fid). nat_le (length fs) 64) (append-nil earlier) ∙ few
still_few earlier session (attribute.Map pt is_rtx rate) few none = ap (λ (fs : List Fid). nat_le (length fs) 64) (append-nil earlier) ∙ few
still_few earlier session (attribute.Apt pt apt) few none = ap (λ (fs : List Fid). nat_le (length fs) 64) (append-nil earlier) ∙ few
still_few earlier session attribute.BadPair few none = ap (λ (fs : List Fid). nat_le (length fs) 64) (append-nil earlier) ∙ few
still_few earlier session attribute.Other few none = ap (λ (fs : List Fid). nat_le (length fs) 64) (append-nil earlier) ∙ few
still_few earlier session attribute.Malformed few none = ap (λ (fs : List Fid). nat_le (length fs) 64) (append-nil earlier) ∙ few
still_few earlier session (attribute.Pair ssrc rtx_ssrc) few none =
    let f : Fid = record { session = session; ssrc = ssrc; rtx_ssrc = rtx_ssrc } in
    let causes = fid_none (nat_eq ssrc rtx_ssrc || has_ssrc earlier session ssrc || has_ssrc earlier session rtx_ssrc) (nat_le max_fids (length earlier)) none in
    ap (λ n. nat_le n 64) (length_more earlier f) ∙ one_more_fid (length earlier) causes.1

new_fids : (sessions : List SessionLine) (session : ℕ) → is_declared sessions session ≡ true → nat_le session 7 ≡ true → (lines : List Placed) → list_all placed_fits lines ≡ true
    → (earlier : List Fid) → fault_of_pairs earlier session lines ≡ None → nat_le (length earlier) 64 ≡ true → FidsGiven sessions earlier (fids_of session lines)
unfolding fault_of_pairs
new_fids sessions session declared small [] fit earlier none few = no_fids_left sessions earlier few
new_fids sessions session declared small (l ∷ lines) fit earlier none few =
    let e = both_true (placed_fits l) (list_all placed_fits lines) fit in
    let n = refused_none (cause_of_pair earlier session l.attribute) l.line (fault_of_pairs (earlier ++ cons_option (as_fid session l.attribute) []) session lines) none in
    line_fids sessions earlier (fids_of session lines) session l.attribute declared small e.0 n.0
    (new_fids sessions session declared small lines e.1 (earlier ++ cons_option (as_fid session l.attribute) []) n.1 (still_few earlier session l.attribute few n.0))

-- ---- earlier lines, with one session more

pts_more : (ss : List SessionLine) (l : SessionLine) (pts : List PtLine) → each_behind (is_new_pt ss) [] pts ≡ true → each_behind (is_new_pt (ss ++ l ∷ [])) [] pts ≡ true
pts_more ss l pts h = each_behind-weaker (is_new_pt ss) (λ _. true) (is_new_pt (ss ++ l ∷ []))
    (λ before x p _. let e = both_true (is_declared ss x.session) (not (has_pt before x.session x.pt)) p in true_both _ _ (any_more _ ss (l ∷ []) e.0) e.1)
    [] pts h (all_true pts)

rtx_more : (ss : List SessionLine) (l : SessionLine) (pts new : List PtLine) (rtx : List RtxLine) → ((x : RtxLine) → nat_lt x.session (length ss) ≡ true → has_pt new x.session x.pt ≡ false)
    → list_all (λ (x : RtxLine). nat_lt x.session (length ss)) rtx ≡ true → each_behind (is_new_rtx ss pts) [] rtx ≡ true → each_behind (is_new_rtx (ss ++ l ∷ []) (pts ++ new)) [] rtx ≡ true
rtx_more ss l pts new rtx other below h = each_behind-weaker (is_new_rtx ss pts) (λ (x : RtxLine). nat_lt x.session (length ss)) (is_new_rtx (ss ++ l ∷ []) (pts ++ new))
    (λ before x p low.
    let e = both_true (is_declared ss x.session && is_declared ss x.osession && has_pt pts x.osession x.apt && not (has_pt pts x.session x.pt)) (not (has_rtx before x.session x.pt)) p in
    let d = both_true (is_declared ss x.session && is_declared ss x.osession && has_pt pts x.osession x.apt) (not (has_pt pts x.session x.pt)) e.0 in
    let b = both_true (is_declared ss x.session && is_declared ss x.osession) (has_pt pts x.osession x.apt) d.0 in
    let a = both_true (is_declared ss x.session) (is_declared ss x.osession) b.0 in
    true_both _ _ (true_both _ _ (true_both _ _ (true_both _ _ (any_more _ ss (l ∷ []) a.0) (any_more _ ss (l ∷ []) a.1)) (any_more _ pts new b.1))
    (is_not _ (none_both (λ (q : PtLine). nat_eq x.session q.session && nat_eq x.pt q.pt) pts new (not_is _ d.1) (other x low)))) e.1)
    [] rtx h below

fids_more : (ss : List SessionLine) (l : SessionLine) (fids : List Fid) → each_behind (is_new_fid ss) [] fids ≡ true → each_behind (is_new_fid (ss ++ l ∷ [])) [] fids ≡ true
fids_more ss l fids h = each_behind-weaker (is_new_fid ss) (λ _. true) (is_new_fid (ss ++ l ∷ []))
    (λ before x p _.
    let e = both_true (is_declared ss x.session && not (nat_eq x.ssrc x.rtx_ssrc) && not (has_ssrc before x.session x.ssrc)) (not (has_ssrc before x.session x.rtx_ssrc)) p in
    let d = both_true (is_declared ss x.session && not (nat_eq x.ssrc x.rtx_ssrc)) (not (has_ssrc before x.session x.ssrc)) e.0 in
    let b = both_true (is_declared ss x.session) (not (nat_eq x.ssrc x.rtx_ssrc)) d.0 in
    true_both _ _ (true_both _ _ (true_both _ _ (any_more _ ss (l ∷ []) b.0) b.1) d.1) e.1)
    [] fids h (all_true fids)

-- new `pt` lines are those of the new session
other_session : (lines : List Placed) (session : ℕ) (types : List ℕ) (x : RtxLine) → list_all placed_fits lines ≡ true → nat_lt x.session session ≡ true
    → has_pt (filter_map (as_pt session) (formats_in lines types)) x.session x.pt ≡ false
other_session lines session types x fit low =
    let all : list_all (λ (q : PtLine). nat_eq q.session session) (filter_map (pt_at lines session) types) ≡ true =
    all_given (λ _. true) (λ (q : PtLine). nat_eq q.session session) (pt_at lines session) (λ t q _ e. ap (λ s. nat_eq s session) (pt_given lines session t q fit e).session_is ∙ nat_eq_same session) types (all_true types) in
    ap (λ (qs : List PtLine). has_pt qs x.session x.pt) (pts_at lines session types)
    ∙ none_by_all (λ (q : PtLine). nat_eq x.session q.session && nat_eq x.pt q.pt) (λ (q : PtLine). nat_eq q.session session)
    (λ q same. ap (λ b. b && nat_eq x.pt q.pt) (ap (nat_eq x.session) (nat_eq_is q.session session same) ∙ is_not_below x.session session low)) (filter_map (pt_at lines session) types) all

-- ---- a kept section

-- what is known of a section without a fault
record Faultless (d : Described) (port : ℕ) (lines : List Placed) (types : List ℕ) : Type 0 where
  fit : list_all placed_fits lines ≡ true
  are : AreTypes types
  passing : list_all (format_passes (formats_in lines types)) (formats_in lines types) ≡ true
  pairs : fault_of_pairs d.fids (length d.sessions) lines ≡ None
  few : nat_le (length d.sessions) 7 ≡ true
  rtp : is_within 1 65535 port ≡ true
  rtcp : is_within 1 65535 (rtcp_port lines port) ≡ true
  no_rtp : has_port d.sessions port ≡ false
  no_rtcp : has_port d.sessions (rtcp_port lines port) ≡ false

-- the session of the section
abbrev session_of : Described → ℕ → List Placed → SessionLine
session_of d port lines = record { session = length d.sessions; rtp = port; rtcp = rtcp_port lines port }

declared_there : (d : Described) (port : ℕ) (lines : List Placed) → is_declared (d.sessions ++ session_of d port lines ∷ []) (length d.sessions) ≡ true
declared_there d port lines = any_behind (λ (l : SessionLine). nat_eq l.session (length d.sessions)) d.sessions (session_of d port lines) (nat_eq_same (length d.sessions))

below_all : {A : Type 0} (session : A → ℕ) (n : ℕ) (xs : List A) → list_all (λ x. nat_lt (session x) n) xs ≡ true → list_all (λ x. nat_lt (session x) (n + 1)) xs ≡ true
below_all session n xs h = all_weaker (λ x. nat_lt (session x) n) (λ x. nat_lt (session x) (n + 1)) (λ x lt. below_more (session x) n lt) xs h

count_one : (d : Described) (l : SessionLine) → length (d.sessions ++ l ∷ []) ≡ length d.sessions + 1
count_one d l = length_more d.sessions l

within_none : (most n : ℕ) → nat_le n most ≡ true → is_within 0 most n ≡ true
within_none most n h = true_both (nat_le 0 n) _ (at_least_none n) h

pt_line_fits : (lines : List Placed) (session t : ℕ) (l : PtLine) → list_all placed_fits lines ≡ true → nat_le session 7 ≡ true → is_small t ≡ true → pt_at lines session t ≡ Some l → pt_fits l ≡ true
pt_line_fits lines session t l fit few small e =
    let g = pt_given lines session t l fit e in
    true_both _ _ (true_both (is_within 0 7 l.session) _ (ap (is_within 0 7) g.session_is ∙ within_none 7 session few) (ap (is_within 0 127) g.pt_is ∙ within_none 127 t small)) g.rate_within

rtx_line_fits : (lines : List Placed) (session t : ℕ) (l : RtxLine) → list_all placed_fits lines ≡ true → nat_le session 7 ≡ true → is_small t ≡ true → rtx_at lines session t ≡ Some l → rtx_fits l ≡ true
rtx_line_fits lines session t l fit few small e =
    let g = rtx_given lines session t l fit e in
    true_both _ _ (true_both _ _ (true_both (is_within 0 7 l.session) _ (ap (is_within 0 7) g.session_is ∙ within_none 7 session few) (ap (is_within 0 127) g.pt_is ∙ within_none 127 t small))
    (ap (is_within 0 7) g.osession_is ∙ within_none 7 session few)) (within_none 127 l.apt g.apt_small)

kept_stands : (d : Described) (port : ℕ) (lines : List Placed) (types : List ℕ) → Faultless d port lines types → Stands d
    → Stands (with_session d port (rtcp_port lines port) (formats_in lines types) (fids_of (length d.sessions) lines))
kept_stands d port lines types k s =
    let n : ℕ = length d.sessions in
    let line : SessionLine = session_of d port lines in
    let declared : is_declared (d.sessions ++ line ∷ []) n ≡ true = declared_there d port lines in
    let count : length (d.sessions ++ line ∷ []) ≡ n + 1 = count_one d line in
    let fids : FidsGiven (d.sessions ++ line ∷ []) d.fids (fids_of n lines) = new_fids (d.sessions ++ line ∷ []) n declared k.few lines k.fit d.fids k.pairs s.sound.few_fids in
    let pts_are = pts_at lines n types in
    let rtx_are = rtxs_at lines n types in
    record {
      sound = record {
        sessions_fit = all_both session_fits d.sessions (line ∷ []) s.sound.sessions_fit
            (true_both (session_fits line) true (true_both _ _ (true_both (is_within 0 7 n) _ (within_none 7 n k.few) k.rtp) k.rtcp) refl);
        pts_fit = all_both pt_fits d.pts _ s.sound.pts_fit
            (ap (list_all pt_fits) pts_are ∙ all_given is_small pt_fits (pt_at lines n) (λ t l small e. pt_line_fits lines n t l k.fit k.few small e) types k.are.small);
        rtx_fit = all_both rtx_fits d.rtx _ s.sound.rtx_fit
            (ap (list_all rtx_fits) rtx_are ∙ all_given is_small rtx_fits (rtx_at lines n) (λ t l small e. rtx_line_fits lines n t l k.fit k.few small e) types k.are.small);
        fids_fit = all_both fid_fits d.fids _ s.sound.fids_fit fids.fit;
        new_sessions = each_behind-append is_new_session [] d.sessions (line ∷ []) s.sound.new_sessions
            (true_both (is_new_session d.sessions line) true
            (true_both _ _ (true_both (not (is_declared d.sessions n)) _
            (is_not _ (none_by_all (λ (l : SessionLine). nat_eq l.session n) (λ l. nat_lt l.session n) (λ l lt. is_not_below l.session n lt) d.sessions s.sessions_below))
            (is_not _ k.no_rtp)) (is_not _ k.no_rtcp)) refl);
        new_pts = each_behind-append (is_new_pt (d.sessions ++ line ∷ [])) [] d.pts _ (pts_more d.sessions line d.pts s.sound.new_pts)
            (ap (each_behind (is_new_pt (d.sessions ++ line ∷ [])) d.pts) pts_are ∙ new_pts (d.sessions ++ line ∷ []) d.pts lines n types k.fit k.are declared s.pts_below);
        new_rtx = each_behind-append (is_new_rtx (d.sessions ++ line ∷ []) (d.pts ++ filter_map (as_pt n) (formats_in lines types))) [] d.rtx _
            (rtx_more d.sessions line d.pts (filter_map (as_pt n) (formats_in lines types)) d.rtx (λ x low. other_session lines n types x k.fit low) s.rtx_below s.sound.new_rtx)
            (ap (each_behind (is_new_rtx (d.sessions ++ line ∷ []) (d.pts ++ filter_map (as_pt n) (formats_in lines types))) d.rtx) rtx_are
            ∙ new_rtxs (d.sessions ++ line ∷ []) d.pts d.rtx lines n types k.fit k.are k.passing declared s.pts_below s.rtx_below);
        new_fids = each_behind-append (is_new_fid (d.sessions ++ line ∷ [])) [] d.fids _ (fids_more d.sessions line d.fids s.sound.new_fids) fids.new;
        few_fids = fids.few;
      };
      sessions_below = ap (λ m. list_all (λ (l : SessionLine). nat_lt l.session m) (d.sessions ++ line ∷ [])) count
          ∙ all_both (λ (l : SessionLine). nat_lt l.session (n + 1)) d.sessions (line ∷ []) (below_all (λ (l : SessionLine). l.session) n d.sessions s.sessions_below)
          (true_both (nat_lt n (n + 1)) true (below_next n) refl);
      pts_below = ap (λ m. list_all (λ (l : PtLine). nat_lt l.session m) (d.pts ++ filter_map (as_pt n) (formats_in lines types))) count
          ∙ all_both (λ (l : PtLine). nat_lt l.session (n + 1)) d.pts _ (below_all (λ (l : PtLine). l.session) n d.pts s.pts_below)
          (ap (list_all (λ (l : PtLine). nat_lt l.session (n + 1))) pts_are
          ∙ all_given (λ _. true) (λ (l : PtLine). nat_lt l.session (n + 1)) (pt_at lines n)
          (λ t l _ e. ap (λ m. nat_lt m (n + 1)) (pt_given lines n t l k.fit e).session_is ∙ below_next n) types (all_true types));
      rtx_below = ap (λ m. list_all (λ (l : RtxLine). nat_lt l.session m) (d.rtx ++ filter_map (as_rtx n) (formats_in lines types))) count
          ∙ all_both (λ (l : RtxLine). nat_lt l.session (n + 1)) d.rtx _ (below_all (λ (l : RtxLine). l.session) n d.rtx s.rtx_below)
          (ap (list_all (λ (l : RtxLine). nat_lt l.session (n + 1))) rtx_are
          ∙ all_given (λ _. true) (λ (l : RtxLine). nat_lt l.session (n + 1)) (rtx_at lines n)
          (λ t l _ e. ap (λ m. nat_lt m (n + 1)) (rtx_given lines n t l k.fit e).session_is ∙ below_next n) types (all_true types));
    }

-- ---- any section

line_none : {A : Type 0} (line : ℕ) (c : Option SdpCause) (answer : Result A Fault) (value : A) → in_line line c answer ≡ Ok value → (c ≡ None) × (answer ≡ Ok value)
line_none line None answer value e = (refl, e)
line_none line (Some c) answer value e = absurd (cc)

unless_none : {A : Type 0} (f : Option Fault) (x value : A) → unless f x ≡ Ok value → (f ≡ None) × (x ≡ value)
unless_none None x value e = (refl, cc)
unless_none (Some f) x value e = absurd (cc)

session_none : (a b : Bool) → (if a then Some cause.Session else if b then Some cause.Port else None) ≡ None → (a ≡ false) × (b ≡ false)
session_none true b e = absurd (cc)
session_none false true e = absurd (cc)
session_none false false e = (refl, refl)

named_port : (b : Bool) (x : Fault) → (if b then None else Some x) ≡ None → b ≡ true
named_port true x e = refl
named_port false x e = absurd (cc)

a_rtcp_port : (b : Bool) (o : Option (ℕ × ℕ)) (port : ℕ) → fault_of_port o ≡ None → nat_le 1 port ≡ true → nat_le 1 (if b then port else named_or (port + 1) o) ≡ true
a_rtcp_port true o port e some = some
a_rtcp_port false None port e some = next_port port
a_rtcp_port false (Some named) port e some = (both_true (nat_le 1 named.1) (nat_le named.1 65535) (named_port _ _ e)).0

types_stand : (d new : Described) (line port : ℕ) (lines : List Placed) (types : List ℕ) → list_all placed_fits lines ≡ true → AreTypes types → is_within 1 65535 port ≡ true → Stands d
    → with_types d line port lines types ≡ Ok new → Stands new
unfolding with_types
types_stand d new line port lines types fit are rtp s e =
    let formats : List Format = formats_in lines types in
    let rtcp : ℕ = rtcp_port lines port in
    let outer = line_none line (cause_of_session d.sessions port rtcp) (unless (fault_of_section d lines formats) (with_session d port rtcp formats (fids_of (length d.sessions) lines))) new e in
    let inner = unless_none (fault_of_section d lines formats) (with_session d port rtcp formats (fids_of (length d.sessions) lines)) new outer.1 in
    let faults = all_none (fault_of_lines lines) (fault_of_port (rtcp_in lines)) (fault_of_formats formats) (fault_of_pairs d.fids (length d.sessions) lines) inner.0 in
    let session = session_none (nat_le 8 (length d.sessions)) (nat_lt 65535 rtcp || has_port d.sessions port || has_port d.sessions rtcp) outer.0 in
    let last = none_true (nat_lt 65535 rtcp || has_port d.sessions port) (has_port d.sessions rtcp) session.1 in
    let first = none_true (nat_lt 65535 rtcp) (has_port d.sessions port) last.0 in
    let some : nat_le 1 port ≡ true = (both_true (nat_le 1 port) (nat_le port 65535) rtp).0 in
    subst Stands inner.1 (kept_stands d port lines types (record {
      fit = fit;
      are = are;
      passing = formats_pass formats faults.2;
      pairs = faults.3;
      few = few_sessions (length d.sessions) session.0;
      rtp = rtp;
      rtcp = true_both (nat_le 1 rtcp) _ (a_rtcp_port (is_muxed lines) (rtcp_in lines) port faults.1 some) (at_most_port rtcp first.0);
      no_rtp = first.1;
      no_rtcp = last.1;
    }) s)

optional_stand : (d new : Described) (line port : ℕ) (lines : List Placed) (words : List (List ℕ)) (o : Option (List ℕ)) → types_of words ≡ o → list_all placed_fits lines ≡ true
    → is_within 1 65535 port ≡ true → Stands d → with_optional_types d line port lines o ≡ Ok new → Stands new
optional_stand d new line port lines words None is fit rtp s e = absurd (cc)
optional_stand d new line port lines words (Some types) is fit rtp s e = types_stand d new line port lines types fit (are_types words types is) rtp s e

media_choice : (b : Bool) (d new : Described) (kept plain : Result Described Fault) → (if b then kept else plain) ≡ Ok new → (b ≡ true → kept ≡ Ok new → Stands new) → (plain ≡ Ok new → Stands new) → Stands new
media_choice true d new kept plain e h k = h refl e
media_choice false d new kept plain e h k = k e

media_stands : (d new : Described) (line : ℕ) (lines : List Placed) (m : Media) → list_all placed_fits lines ≡ true → nat_le m.port 65535 ≡ true → Stands d → with_media d line lines m ≡ Ok new → Stands new
unfolding with_media
media_stands d new line lines m fit most s e =
    media_choice (is_kept m) d new (with_optional_types d line m.port lines (types_of m.types)) (unless (fault_of_lines lines) d) e
    (λ kept taken. optional_stand d new line m.port lines m.types (types_of m.types) refl fit
    (true_both (nat_le 1 m.port) _ (a_port m.port (both_true (not (nat_eq m.port 0)) (is_rtp m.transport) kept).0) most) s taken)
    (λ plain. subst Stands (unless_none (fault_of_lines lines) d new plain).1 s)

media_port : (o : Option ℕ) (word transport : List ℕ) (types : List (List ℕ)) (m : Media) → port_in word ≡ o
    → option_map (λ p. record { port = p; transport = transport; types = types }) o ≡ Some m → nat_le m.port 65535 ≡ true
media_port None word transport types m is e = absurd (none-some m e)
media_port (Some p) word transport types m is e =
    let same : ◌≡◌ {A = Media} (record { port = p; transport = transport; types = types }) m = cc in
    sym (ap (λ (x : Media). nat_le x.port 65535) same) ∙ (number_within 0 65535 (less_end (codes "/1") word) p is).1

words_port : (words : List (List ℕ)) (m : Media) → media_of_words words ≡ Some m → nat_le m.port 65535 ≡ true
words_port [] m e = absurd (none-some m e)
words_port (a ∷ []) m e = absurd (none-some m e)
words_port (a ∷ b ∷ []) m e = absurd (none-some m e)
words_port (a ∷ b ∷ c ∷ []) m e = absurd (none-some m e)
words_port (kind ∷ port ∷ transport ∷ type ∷ types) m e = media_port (port_in port) port transport (type ∷ types) m refl e

optional_media_stands : (d new : Described) (line : ℕ) (lines : List Placed) (words : List (List ℕ)) (o : Option Media) → media_of_words words ≡ o → list_all placed_fits lines ≡ true → Stands d
    → with_optional_media d line lines o ≡ Ok new → Stands new
optional_media_stands d new line lines words None is fit s e = absurd (cc)
optional_media_stands d new line lines words (Some m) is fit s e = media_stands d new line lines m fit (words_port words m is) s e

-- a section more
section_stands : (d new : Described) (s : Section) → Stands d → with_section d s ≡ Ok new → Stands new
unfolding with_section
section_stands d new s stands e =
    optional_media_stands d new s.media.number (map placed_of s.lines) (media_words s.media) (media_of_words (media_words s.media)) refl (lines_fit s.lines) stands e

then_ok : (r : Result Described Fault) (f : Described → Result Described Fault) (new : Described) → (r >>= f) ≡ Ok new → (d : Described) × (r ≡ Ok d) × (f d ≡ Ok new)
then_ok (Ok d) f new e = (d, refl, e)
then_ok (Err x) f new e = absurd (cc)

same_ok : (d new : Described) → ◌≡◌ {A = Result Described Fault} (Ok d) (Ok new) → d ≡ new
same_ok d new e = cc

sections_stand : (d new : Described) (sections : List Section) → Stands d → with_sections d sections ≡ Ok new → Stands new
unfolding with_sections
sections_stand d new [] stands e = subst Stands (same_ok d new e) stands
sections_stand d new (s ∷ sections) stands e =
    let first = then_ok (with_section d s) (λ described. with_sections described sections) new e in
    sections_stand first.0 new sections (section_stands d first.0 s stands first.1) first.2

-- all sections
pub sections_sound : (draft new : Described) (sections : List Section) → draft ≡ nothing → with_sections draft sections ≡ Ok new → IsSound new
sections_sound draft new sections empty e =
    let all : Stands new = sections_stand draft new sections (subst Stands (sym empty) nothing_stands) e in
    all.sound
