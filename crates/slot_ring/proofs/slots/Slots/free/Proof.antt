-- `free` gives back a block whose places are all empty. Assumes `Logic`.
use Rattle.slot_ring.proofs.Walks.{◌≡◌, refl, sym, ap, subst, ℕ, ◌*◌, ◌<◌, ◌^◌, arith, List, [], ◌∷◌, ent, never, id⊢, ftrue, froom, flft, Incl-trans, Fn, named, w64, ty_array, a_type, dcons, dnil, inst_fn, Val, vint, vunit, WpFn, fact, ◌⊑◌, tables, ‵, raw, ◌⊛◌, given, later, learn, await, at_ret, ◌$◌, ◌∵◌, !, qed, move, keep, drop, use1, split, join, rewrite, fsplit, fjoin, feq_i, flt_l, suffices, group, done, whole, sub, stop, fld, unit_lit, size_word, align_word, of_opd, bin, first, blocks, exec, returns, enter, and_then, no_more, alloc_all, pass_all, free_all, look_at, get, get_in, sets, lands_last, is, env, yes, no, Typed, bounded, layout, param, param_laws, block_ptr, ptr_val, in_a_block, Bor, ShrRef, RefOf, shr_vals, shr_Tells, usize, plain, nothing, heard, Stays, stay_dropped, walk_of, ends_at, Goes-dropped, Option, None, replicate, type_size, as_raw, after, proved_at, align, capped, capped_fits, calls_at_last, framed, Al, Gives, at_gives, Gives-goes, Gives-Gives, Goes-blank}
use mir.Syntax.{ty_unit}
use lib.ListN.{length-replicate}
use Rattle.slot_ring.proofs.Memory.{Fits, room_in, times_word, block, block_size, block_align}
use Rattle.slot_ring.specs.Ownership.{row_owned, block_right}
use Rattle.slot_ring.specs.contracts.slots.Slots.{the_row}
use Rattle.slot_ring.specs.contracts.slots.Slots.free as f
use Rattle.slot_ring.proofs.slots.Slots.TheLaws.{lowers, the_row_laws}
use Rattle.slot_ring.proofs.slots.Slots.free.Statement.{statement}
use Rattle.slot_ring.proofs.slots.Slots.free.Code as code

pub free_spec : {M : Type 1} → statement M
free_spec 𝓤 𝓛 𝓜 𝓡 wired X W LX LW g d dd met md =
    let T = f.ended X W g d dd in let c = f.clauses X W g d dd 𝓛 𝓜.mem 𝓡.returns in let 𝓣 = tables 𝓤 𝓛.H 𝓜 𝓡 𝓡.env in
    let kinds = bounded (a_type ∷ a_type ∷ []) (X, (W, tt)) (dcons d (dcons dd dnil)) in
    let function : Fn = inst_fn kinds code.function in
    let Z : Al = record { row = W; laws = LW; g = g; d = d; drops = dd } in
    let R = param 0 X in let A = param 1 W in let S = the_row R A g in let Ref = RefOf (0 ∷ []) tt (plain (λ _. A)) (λ _. tt) in
    let stayed : Stays T.signature.params T.kept = (stay_dropped (plain (λ _. S)) no, (stay_dropped Ref yes, (stay_dropped (plain (λ _. usize)) yes, tt))) in
    let W' = walk_of 𝓛 T stayed c in
    proved_at 𝓛 T stayed c 𝓜 𝓡
    (Goes-blank 𝓛 3 (plain (λ _. S)) no (λ κs x w. tt), (Goes-dropped 𝓛 3 Ref yes (λ κs x w. refl), (Goes-dropped 𝓛 3 (plain (λ _. usize)) yes (λ κs x w. refl), tt)))
    (f.Key.name kinds) function (code.unfolded 𝓤 𝓛.H 𝓜 𝓡 wired (X, (W, tt)) d dd) (λ y are.
    let κs = y.0.0 in let qs = y.0.1 in let a = y.0.3 in let κ = κs.0 in let q = qs.0 in
    let h : S.Denot = a.0 in let lender : Bor A.Denot = a.1.0 in let len : ℕ = a.1.1.0 in let b = lender.ref_ptr.0 in let o = lender.ref_ptr.1 in
    let LR = param_laws 0 X LX in let LA = param_laws 1 W LW in let lowered = lowers R A g LR LA in
    let self = lowered.lowered h in let word = lowered.val_is h y.0.4.0 are.0 in
    let typed : Typed S.mir (self ∷ []) = subst (λ (ws : List Val). Typed S.mir ws) word (((the_row_laws R A g LR LA).lawful 𝓛).typed h y.0.4.0 are.0) in
    let Vals = List Val × (List Val × (List Val × Unit {0})) in
    let vss : Vals = (self ∷ [], (shr_vals lender, (vint w64 len ∷ [], tt))) in
    let same : vss ≡ y.0.4 = λ j. (sym word j, (sym (shr_Tells (named 0) κ A lender y.0.4.1.0 are.1.0) j, (sym are.1.1.0.0 j, tt))) in
    let at : Vals → W'.Ghost = λ us. ((κs, qs, y.0.2, a, us), tt) in
    subst (λ (us : Vals). ent 𝓤 (W'.pre (at us)) (WpFn 𝓤 𝓛.H 𝓣.C 𝓣.Λ function (W'.args (at us)) (W'.post (at us)))) same (
    let z = at vss in let token = g.dealloc_token h.lender in let size = type_size R in
    let Tokens = ‵ (flft κs.1.0 qs.1.0) ⊛ ‵ (flft κs.1.1.0 qs.1.1.0) ⊛ ‵ ftrue in
    let Asked = (h.places ≡ replicate len None) × (h.lender ≡ lender.now) in
    qed 𝓛 (((‵ (flft κ q) ⊛ Tokens) ⊛ ‵ (S.own_val h vss.0) ⊛ ‵ ((ShrRef (named 0) κ A).own_val lender vss.1.0) ⊛ ‵ (usize.own_val len vss.1.1.0) ⊛ ‵ ftrue)
    ∷ (raw (fact 𝓤 (κs.1.0 ⊑ X.lives)) ⊛ raw (fact 𝓤 (κs.1.1.0 ⊑ W.lives)) ⊛ raw (fact 𝓤 Asked)) ∷ []) ∵
    move ! (1 ∷ []) $ split ! $ drop ! $ split ! $ heard ! _ (λ short. heard ! _ (λ asked.
    split ! $ split ! $ move ! (2 ∷ []) $ split ! $ move ! (1 ∷ []) $ split ! $ keep ! (2 ∷ 0 ∷ 3 ∷ 4 ∷ []) $
    -- [self; the `&` to the allocator; the token of its lifetime; the other tokens]
    enter ! _ _ _ _ _ $ alloc_all ! (λ l. pass_all ! refl (typed.0, ((tt, tt), ((tt, record { fits = are.1.1.0.1 }), tt))) $
    move ! (1 ∷ []) $ fsplit ! $ drop ! $ move ! (1 ∷ []) $ fsplit ! $ drop ! $ rewrite ! 0 (λ (row : List (Option X.Denot)). ‵ (row_owned R token h.start row)) asked.0 refl $
    in_a_block ! h.start (λ p. row_owned R token p (replicate len None)) (id⊢ 𝓤 (never 𝓤)) (λ bb bo e. fsplit ! $ flt_l ! (λ small. fsplit ! $
    -- [the places; the right to their block; the allocator, shared; the token; the other tokens]
    let long = length-replicate len None in
    let below : len * size < 2 ^ 63 = subst (λ n. n * size < 2 ^ 63) long small in let bytes : len * size < 2 ^ 64 = omega arith in
    rewrite ! 1 (λ (n : ℕ). ‵ (block_right R token (block_ptr bb bo) n)) long refl $ rewrite ! 1 (λ (l : W.Denot). ‵ (block_right R (g.dealloc_token l) (block_ptr bb bo) len)) asked.1 refl $
    use1 𝓛 (‵ (froom (ty_array (layout X) len) bb bo)) (room_in X LX 𝓛 bb len bo) $ as_raw ! (ty_array (layout X) len) bb bo $
    sets ! (is ! (of_opd ! (get_in ! (fld ! refl (stop !)) (sub ! 0 refl (whole !)))) (ap ptr_val e)) refl (tt, tt) $
    first ! $ blocks ! $ sets ! (of_opd ! (get ! refl)) refl (tt, tt) $
    sets ! (is ! (bin ! (get ! refl) (size_word !) (record { fits = subst (λ n. n < 2 ^ 64) (sym (times_word len size bytes)) bytes })) (ap (vint w64) (times_word len size bytes))) refl (tt, record { fits = bytes }) $
    let al : ℕ = capped (align (layout X)) in let G = Gives Z 𝓛 𝓜.mem 𝓡.returns in
    let call : G.Ghost = at_gives Z 𝓛 𝓜.mem 𝓡.returns κ q (b, o) lender.now bb bo (len * size) al (block X len) in
    group ! 4 $ use1 𝓛 (raw (G.pre call))
    (Gives-goes Z 𝓛 𝓜.mem 𝓡.returns κ q (b, o) lender.now (Incl-trans y.0.2.0 short) bb bo (len * size) al (block X len) (block_size X len bytes) (block_align X len) bytes (capped_fits (align (layout X)))) $
    calls_at_last ! (framed 𝓤 𝓛.H 𝓜 𝓣) G (met.deallocate dd) call (and_then ! (get ! refl) (and_then ! (get ! refl) (and_then ! (get ! refl) (and_then ! (align_word !) (no_more !))))) (λ v.
    use1 𝓛 (later (given (v ≡ vunit) (‵ (flft κ q)))) (Gives-Gives Z 𝓛 𝓜.mem 𝓡.returns κ q (b, o) lender.now bb bo (len * size) al (block X len) v) $ await ! tt $ learn ! (λ is_unit.
    lands_last ! refl (subst (λ (w : Val). Fits ty_unit w) (sym is_unit) (tt, tt)) $ exec ! 𝓣.C 𝓣.Λ (env function.locals l) (after 2 function.body) (at_ret _ (W'.post z)) $
    sets ! (of_opd ! (unit_lit !)) refl (tt, tt) $ returns ! (look_at ! 0 refl) $ free_all ! refl $
    -- [the token; the other tokens]
    suffices ! _ (ends_at 𝓛 T stayed c z vunit tt (tt, (tt, (tt, tt))) (tt, (tt, (tt, tt)))) $
    join ! $ feq_i ! (List Val) (vunit ∷ []) (vunit ∷ []) refl $ nothing ! $ nothing ! $ fjoin ! $ nothing ! $ fjoin ! $ nothing ! $ fjoin ! $ join ! $
    move ! (1 ∷ 0 ∷ []) $ join ! $ nothing ! $ move ! (1 ∷ 0 ∷ []) $ done !)))))))))
