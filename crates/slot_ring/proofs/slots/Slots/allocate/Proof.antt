-- `allocate` makes a row of empty places of a new block. Assumes `Logic`.
use Rattle.slot_ring.proofs.Walks.{◌≡◌, refl, sym, ap, subst, ℕ, ◌*◌, ◌<◌, ◌^◌, arith, List, [], ◌∷◌, ent, ftrue, flft, Incl-trans, Fn, Body, named, w64, ty_array, a_type, dcons, dnil, inst_fn, Val, vptr, vint, vstruct, vcons, vnil, lit<, Wp, WpFn, after_seq, at_return, fact, ◌⊑◌, tables, ‵, raw, ◌⊛◌, later, await, at_ret, any_q, ◌$◌, ◌∵◌, !, qed, move, keep, drop, use0, use1, use2, split, join, rewrite, fsplit, fjoin, flt_i, suffices, frame, done, whole, stop, fld, lit, agg, size_word, align_word, of_opd, bin, first, exec, returns, enter, and_then, no_more, switches_on, alloc_all, pass_all, free_all, look_at, get, get_in, get_tag, sets, sets_last, lands_as, is, env, yes, Is, bounded, layout, param, Ptr, block_ptr, Bor, ShrRef, RefOf, shr_vals, shr_Tells, usize, plain, nothing, owned, heard, says, Stays, stay_dropped, walk_of, ends_at, Goes-dropped, None, length, replicate, type_size, as_written, after, proved_at, RattleType, align, capped, capped_fits, calls_at, framed, Al, Takes, at_takes, Answered, answers, Answer-typed, Takes-goes, Takes-gives}
use mathlib.Core.Bool.{true, false}
use lib.ListN.{length-replicate}
use types.Match.{live, vrt, in_variant}
use denote.Struct.Struct.{Struct, Struct-Makes}
use denote.Struct.Declared.{shape}
use denote.Struct.Owning as owning
use denote.Shadow.{makes_shadow}
use Rattle.std.specs.Prelude.{Ok, Err}
use Rattle.std.specs.Vec.Ownership.{FitsInBlock}
use Rattle.std.specs.contracts.result.Result as RS
use Rattle.std.specs.contracts.alloc.AllocError as AE
use Rattle.std.proofs.VecSteps.Shapes.{head, arm_body}
use Rattle.std.proofs.ResultValues.{ok_of, err_of}
use Rattle.slot_ring.proofs.Memory.{Fits, room_out, times_word, block, block_size, block_align}
use Rattle.slot_ring.specs.Ownership.{places_owned, block_right}
use Rattle.slot_ring.specs.contracts.slots.Slots.{the_row, the_type}
use Rattle.slot_ring.specs.contracts.slots.Slots.allocate as f
use Rattle.slot_ring.proofs.slots.Slots.allocate.Statement.{statement}
use Rattle.slot_ring.proofs.slots.Slots.allocate.Code as code

pub allocate_spec : {M : Type 1} → statement M
allocate_spec 𝓤 𝓛 𝓜 𝓡 wired X W LX LW g d dd met md =
    let T = f.ended X W g d dd in let c = f.clauses X W g d dd 𝓛 𝓜.mem 𝓡.returns in let 𝓣 = tables 𝓤 𝓛.H 𝓜 𝓡 𝓡.env in
    let kinds = bounded (a_type ∷ a_type ∷ []) (X, (W, tt)) (dcons d (dcons dd dnil)) in
    let function : Fn = inst_fn kinds code.function in
    let Z : Al = record { row = W; laws = LW; g = g; d = d; drops = dd } in
    let R = param 0 X in let A = param 1 W in let S = the_row R A g in let Ref = RefOf (0 ∷ []) tt (plain (λ _. A)) (λ _. tt) in
    let Out = RS.the_row S AE.the_row in
    let stayed : Stays T.signature.params T.kept = (stay_dropped Ref yes, (stay_dropped (plain (λ _. usize)) yes, tt)) in
    let W' = walk_of 𝓛 T stayed c in
    proved_at 𝓛 T stayed c 𝓜 𝓡
    (Goes-dropped 𝓛 3 Ref yes (λ κs x w. refl), (Goes-dropped 𝓛 3 (plain (λ _. usize)) yes (λ κs x w. refl), tt))
    (f.Key.name kinds) function (code.unfolded 𝓤 𝓛.H 𝓜 𝓡 wired (X, (W, tt)) d dd) (λ y are.
    let κs = y.0.0 in let qs = y.0.1 in let a = y.0.3 in let κ = κs.0 in let q = qs.0 in
    let lender : Bor A.Denot = a.0 in let len : ℕ = a.1.0 in let b = lender.ref_ptr.0 in let o = lender.ref_ptr.1 in
    let Vals = List Val × (List Val × Unit {0}) in
    let vss : Vals = (shr_vals lender, (vint w64 len ∷ [], tt)) in
    let same : vss ≡ y.0.4 = λ j. (sym (shr_Tells (named 0) κ A lender y.0.4.0 are.0) j, (sym are.1.0.0 j, tt)) in
    let at : Vals → W'.Ghost = λ us. ((κs, qs, y.0.2, a, us), tt) in
    subst (λ (us : Vals). ent 𝓤 (W'.pre (at us)) (WpFn 𝓤 𝓛.H 𝓣.C 𝓣.Λ function (W'.args (at us)) (W'.post (at us)))) same (
    let z = at vss in let size = type_size R in
    let Tokens = ‵ (flft κs.1.0 qs.1.0) ⊛ ‵ (flft κs.1.1.0 qs.1.1.0) ⊛ ‵ ftrue in
    qed 𝓛 (((‵ (flft κ q) ⊛ Tokens) ⊛ ‵ ((ShrRef (named 0) κ A).own_val lender vss.0) ⊛ ‵ (usize.own_val len vss.1.0) ⊛ ‵ ftrue)
    ∷ (raw (fact 𝓤 (κs.1.0 ⊑ X.lives)) ⊛ raw (fact 𝓤 (κs.1.1.0 ⊑ W.lives)) ⊛ raw (fact 𝓤 (FitsInBlock R len))) ∷ []) ∵
    move ! (1 ∷ []) $ split ! $ drop ! $ split ! $ heard ! _ (λ short. heard ! _ (λ asked.
    split ! $ split ! $ move ! (2 ∷ []) $ split ! $ keep ! (0 ∷ 2 ∷ 3 ∷ []) $ fsplit ! $ drop ! $
    -- [the allocator, shared; the token of its lifetime; the other tokens]
    enter ! _ _ _ _ _ $ alloc_all ! (λ l. pass_all ! refl ((tt, tt), ((tt, record { fits = are.1.0.1 }), tt)) $
    let En = env function.locals l in
    let below : len * size < 2 ^ 63 = asked.0 in let bytes : len * size < 2 ^ 64 = omega arith in
    let both : Body = head (after 2 function.body) in let on = any_q (after_seq 𝓤 𝓛.H (Wp 𝓤 𝓛.H 𝓣.C 𝓣.Λ En (after 3 function.body) (at_return 𝓤 𝓛.H En (W'.post z))) (at_return 𝓤 𝓛.H En (W'.post z))) in
    let al : ℕ = capped (align (layout X)) in let G = Takes Z 𝓛 𝓜.mem 𝓡.returns in
    let call : G.Ghost = at_takes Z 𝓛 𝓜.mem 𝓡.returns κ q (b, o) lender.now (len * size) al (block X len) in
    sets ! (is ! (bin ! (get ! refl) (size_word !) (record { fits = subst (λ n. n < 2 ^ 64) (sym (times_word len size bytes)) bytes })) (ap (vint w64) (times_word len size bytes))) refl (tt, record { fits = bytes }) $
    use2 𝓛 (raw (G.pre call)) (Takes-goes Z 𝓛 𝓜.mem 𝓡.returns κ q (b, o) lender.now (Incl-trans y.0.2.0 short) (len * size) al (block X len) (block_size X len bytes) (block_align X len) bytes (capped_fits (align (layout X)))) $
    calls_at ! (framed 𝓤 𝓛.H 𝓜 𝓣) G (met.allocate dd) call (and_then ! (get ! refl) (and_then ! (get ! refl) (and_then ! (align_word !) (no_more !)))) (λ v.
    use1 𝓛 (later (raw (Answered Z 𝓛 𝓜.mem 𝓡.returns lender.now (block X len) v) ⊛ ‵ (flft κ q))) (Takes-gives Z 𝓛 𝓜.mem 𝓡.returns κ q (b, o) lender.now (len * size) al (block X len) v) $ await ! tt $ split ! $
    answers Z ! 𝓜.mem 𝓡.returns lender.now (block X len) v
    (λ bb bo e.
    let p : Ptr = block_ptr bb bo in let none = replicate len None in let row : S.Denot = record { start = p; mark = record {}; places = none; lender = lender.now } in
    let made : Val = vstruct (vcons (vptr bb bo) (vcons (vstruct vnil) vnil)) in let ok : Val = live 0 (vcons made vnil) in
    let Fields : RattleType = Struct (owning.shape (the_type R A g)) in
    let good : Fits (layout Out) ok = (tt, (record { fits = lit< tt }, ((tt, (tt, tt)), tt))) in
    let long = sym (length-replicate len None) in
    lands_as ! e refl (Answer-typed true bb bo) $ first ! $ switches_on ! (get_tag ! (vrt ! refl (fld ! refl (stop !))) (whole !)) $ exec ! 𝓣.C 𝓣.Λ En (arm_body 0 both) on $
    sets ! (of_opd ! (get_in ! (vrt ! refl (fld ! refl (stop !))) (in_variant ! 0 0 refl refl (whole !)))) refl (tt, tt) $ sets ! (of_opd ! (get ! refl)) refl (tt, tt) $
    sets ! (agg ! (no_more !)) refl (tt, tt) $ sets ! (agg ! (and_then ! (get ! refl) (and_then ! (get ! refl) (no_more !)))) refl (tt, (tt, (tt, tt))) $
    sets_last ! (agg ! (and_then ! (lit ! tt) (and_then ! (get ! refl) (no_more !)))) refl good $
    exec ! 𝓣.C 𝓣.Λ En (after 3 function.body) (at_ret En (W'.post z)) $ sets ! (of_opd ! (get ! refl)) refl good $
    -- [room for the block; the right to it; the token; the other tokens]
    as_written ! (ty_array (layout X) len) bb bo $ use1 𝓛 (‵ (places_owned R bb bo none)) (room_out X LX 𝓛 bb len bo) $
    rewrite ! 1 (λ (n : ℕ). ‵ (block_right R (g.dealloc_token lender.now) p n)) long refl $ fjoin ! $
    flt_i ! (length none * size) (2 ^ 63) (subst (λ n. n * size < 2 ^ 63) long below) $ fjoin ! $
    use0 𝓛 (‵ (Fields.own_val (p, (tt, tt)) (made ∷ []))) (makes_shadow 𝓛 (Fields.own_val (p, (tt, tt)) (made ∷ [])) (λ vss. (tt, (tt, ((λ uss. (tt, tt)), tt)))) ((vptr bb bo ∷ [], (vstruct vnil ∷ [], tt)), (refl, (refl, ((tt, (refl, tt)), tt))))) $ fjoin ! $
    use1 𝓛 (‵ (Out.own_val (Ok row) (ok ∷ []))) (ok_of 𝓛 S AE.the_row row made) $
    returns ! (look_at ! 0 refl) $ free_all ! refl $
    suffices ! _ (ends_at 𝓛 T stayed c z ok (Ok row) (tt, (tt, tt)) (tt, (tt, tt))) $ says ! (refl, refl) $
    move ! (1 ∷ 2 ∷ []) $ join ! $ frame ! $ nothing ! $ nothing ! $ fjoin ! $ nothing ! $ fjoin ! $ done !)
    (λ e.
    let Refusal : RattleType = Struct (shape AE.the_type) in let err : Val = live 1 (vcons (vstruct vnil) vnil) in
    let good : Fits (layout Out) err = (tt, (record { fits = lit< tt }, (tt, tt))) in
    lands_as ! e refl (Answer-typed false 0 0) $ first ! $ switches_on ! (get_tag ! (vrt ! refl (fld ! refl (stop !))) (whole !)) $ exec ! 𝓣.C 𝓣.Λ En (arm_body 1 both) on $
    sets ! (of_opd ! (get_in ! (vrt ! refl (fld ! refl (stop !))) (in_variant ! 1 0 refl refl (whole !)))) refl (tt, tt) $
    sets_last ! (agg ! (and_then ! (lit ! tt) (and_then ! (get ! refl) (no_more !)))) refl good $
    exec ! 𝓣.C 𝓣.Λ En (after 3 function.body) (at_ret En (W'.post z)) $ sets ! (of_opd ! (get ! refl)) refl good $
    owned ! Refusal (Is Refusal) (Struct-Makes 𝓛 (shape AE.the_type) tt) tt (vstruct vnil ∷ []) (tt, (refl, tt)) $
    use1 𝓛 (‵ (Out.own_val (Err (record {})) (err ∷ []))) (err_of 𝓛 S AE.the_row (record {}) (vstruct vnil)) $
    returns ! (look_at ! 0 refl) $ free_all ! refl $
    suffices ! _ (ends_at 𝓛 T stayed c z err (Err (record {})) (tt, (tt, tt)) (tt, (tt, tt))) $ says ! tt $
    move ! (1 ∷ 2 ∷ []) $ join ! $ frame ! $ nothing ! $ nothing ! $ fjoin ! $ nothing ! $ fjoin ! $ done !)))))))
