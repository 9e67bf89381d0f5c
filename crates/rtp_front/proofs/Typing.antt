-- The types of the sessions that a script declares.
use Rattle.std.proofs.Common.{◌<◌, zero, suc, length, get_or, arith, ◌≡◌, ◌||◌, ◌&&◌, ℕ, Bool, true}
use Rattle.std.proofs.Common.{false, cond, nat_eq, List, [], ◌∷◌, ◌++◌, Option, Some, None, refl}
use Rattle.std.proofs.Common.{sym, ap, subst, ◌∙◌, eqb-true}
use Rattle.std.specs.Prelude.{not, nat_le}
use Rattle.std.proofs.lemmas.Bool.{leb-true}
use Rattle.rtp_units.specs.declared.shared.RtxLine.{RtxLine}
use Rattle.std.specs.List.{list_all, filter_map, cons_option}
use Rattle.std.proofs.lemmas.List.Folds.{list_any-append}
use Rattle.script_lang.specs.declared.script.SessionLine.{SessionLine}
use Rattle.script_lang.specs.declared.script.PtLine.{PtLine}
use Rattle.script_lang.specs.Contents.{Contents, IsScript, each_behind, is_new_pt}
use Rattle.script_lang.specs.Entries.{rtx_fits}
use Rattle.script_lang.specs.Settings.{is_within}
use Rattle.rtx.specs.Pairs.{AreTypes}
use Rattle.script_lang.specs.Tests.{is_declared, has_pt}
use Rattle.rtp_demux.specs.declared.types.Route.{Route}
use Rattle.rtp_demux.specs.Types.{StandsFor as RoutesFor}
use Rattle.front_model.specs.Types.{rate_in, rates}
use Rattle.rtp_front.specs.Standing.{routes_or}

-- What a map has of a session, where these lines declare sessions.
abbrev pub IsTyped : Contents → List SessionLine → ℕ → Option (List (ℕ × Route)) → Type 0
IsTyped c lines session None = is_declared lines session ≡ false
IsTyped c lines session (Some routes) = RoutesFor routes (rates c session) []

neither : (a b : Bool) → a ≡ false → b ≡ false → (a || (b || false)) ≡ false
neither true b e f = absurd cc
neither false true e f = absurd cc
neither false false e f = refl

kept_typed : (c : Contents) (lines : List SessionLine) (l : SessionLine) (s : ℕ)
    (o : Option (List (ℕ × Route))) → nat_eq l.session s ≡ false → IsTyped c lines s o
    → IsTyped c (lines ++ l ∷ []) s o
kept_typed c lines l s None e h =
    list_any-append (λ (x : SessionLine). nat_eq x.session s) lines (l ∷ [])
    ∙ neither (is_declared lines s) (nat_eq l.session s) h e
kept_typed c lines l s (Some routes) e h = h

typed_by : (c : Contents) (lines : List SessionLine) (l : SessionLine) (s : ℕ) (b : Bool)
    (made : List (ℕ × Route)) (old : Option (List (ℕ × Route))) → nat_eq l.session s ≡ b
    → RoutesFor made (rates c l.session) [] → IsTyped c lines s old
    → IsTyped c (lines ++ l ∷ []) s (cond b (Some made) old)
typed_by c lines l s true made old e here before =
    subst (λ (x : ℕ). RoutesFor made (rates c x) []) (eqb-true l.session s e) here
typed_by c lines l s false made old e here before = kept_typed c lines l s old e before

pub typed_more : (c : Contents) (lines : List SessionLine) (l : SessionLine) (s : ℕ)
    (made : List (ℕ × Route)) (old new : Option (List (ℕ × Route)))
    → RoutesFor made (rates c l.session) [] → IsTyped c lines s old
    → new ≡ cond (nat_eq l.session s) (Some made) old
    → IsTyped c (lines ++ l ∷ []) s new
typed_more c lines l s made old new here before put =
    subst (λ (o : Option (List (ℕ × Route))). IsTyped c (lines ++ l ∷ []) s o) (sym put)
    (typed_by c lines l s (nat_eq l.session s) made old refl here before)

-- ---- sessions that are not declared have no types

both : (x y : Bool) → (x && y) ≡ true → (x ≡ true) × (y ≡ true)
both true true e = (refl, refl)
both true false e = absurd cc
both false y e = absurd cc

other_type : (sessions : List SessionLine) (l : PtLine) (s : ℕ) (b : Bool) (rest : List (ℕ × ℕ))
    → nat_eq l.session s ≡ b → is_declared sessions l.session ≡ true
    → is_declared sessions s ≡ false
    → cons_option (cond b (Some (l.pt, l.rate)) None) rest ≡ rest
other_type sessions l s true rest e there absent =
    let same = ap (is_declared sessions) (eqb-true l.session s e) in absurd cc
other_type sessions l s false rest e there absent = refl

no_types : (sessions : List SessionLine) (s : ℕ) (before pts : List PtLine)
    → is_declared sessions s ≡ false → each_behind (is_new_pt sessions) before pts ≡ true
    → filter_map (rate_in s) pts ≡ []
no_types sessions s before [] absent h = refl
no_types sessions s before (l ∷ pts) absent h =
    let e = both (is_new_pt sessions before l)
    (each_behind (is_new_pt sessions) (before ++ l ∷ []) pts) h in
    let f = both (is_declared sessions l.session) (not (has_pt before l.session l.pt)) e.0 in
    other_type sessions l s (nat_eq l.session s) (filter_map (rate_in s) pts) refl f.0 absent
    ∙ no_types sessions s (before ++ l ∷ []) pts absent e.1

pub all_typed : (c : Contents) (s : ℕ) (o : Option (List (ℕ × Route))) → IsScript c
    → IsTyped c c.sessions s o → RoutesFor (routes_or o) (rates c s) []
all_typed c s None script absent =
    subst (λ (rs : List (ℕ × ℕ)). RoutesFor [] rs [])
    (sym (no_types c.sessions s [] c.pts absent script.new_pts)) (λ q. refl)
all_typed c s (Some routes) script h = h

-- ---- payload types have seven bits

fits : (l : RtxLine) → rtx_fits l ≡ true → (l.pt < 128) × (l.apt < 128)
fits l h =
    let a = both (is_within 0 7 l.session && is_within 0 127 l.pt && is_within 0 7 l.osession)
    (is_within 0 127 l.apt) h in
    let b = both (is_within 0 7 l.session && is_within 0 127 l.pt) (is_within 0 7 l.osession) a.0 in
    let d = both (is_within 0 7 l.session) (is_within 0 127 l.pt) b.0 in
    let e = both (nat_le 0 l.pt) (nat_le l.pt 127) d.1 in
    let f = both (nat_le 0 l.apt) (nat_le l.apt 127) a.1 in
    (omega (arith, leb-true l.pt 127 e.1), omega (arith, leb-true l.apt 127 f.1))

fits_at : (lines : List RtxLine) (k : ℕ) (none : RtxLine) → list_all rtx_fits lines ≡ true
    → k < length lines → ((get_or lines k none).pt < 128) × ((get_or lines k none).apt < 128)
fits_at [] k none h lt = absurd (omega arith)
fits_at (l ∷ lines) zero none h lt = fits l (both (rtx_fits l) (list_all rtx_fits lines) h).0
fits_at (l ∷ lines) (suc k) none h lt =
    fits_at lines k none (both (rtx_fits l) (list_all rtx_fits lines) h).1 (omega arith)

pub types_fit : (lines : List RtxLine) → list_all rtx_fits lines ≡ true → AreTypes lines
types_fit lines h = λ k none lt. fits_at lines k none h lt
