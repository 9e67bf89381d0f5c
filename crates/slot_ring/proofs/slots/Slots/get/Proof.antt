-- `get` lends the value in a filled place. Assumes `Logic`.
use Rattle.slot_ring.proofs.Walks.{◌≡◌, refl, sym, ap, subst, ◌∙◌, ℕ, ◌+◌, ◌*◌, ◌<◌, ◌^◌, arith, List, [], ◌∷◌, ent, id⊢, ftrue, flft, Fn, named, w64, a_type, dcons, dnil, inst_fn, Val, vptr, vint, WpFn, fact, ◌⊑◌, tables, ‵, raw, ◌⊛◌, at_ret, ◌$◌, ◌∵◌, !, qed, move, keep, drop, use1, split, join, rewrite, fsplit, fjoin, feq_i, feq_l, flt_l, suffices, frame, done, look, load, stop, fld, size_lit, of_opd, bin, first, blocks, exec, returns, enter, alloc_all, pass_all, free_all, look_at, get, through, sets, sets_last, env, yes, cell_at, bounded, param, Ptr, in_a_block, Bor, ShrRef, RefOf, shr_vals, shr_Tells, hide, unhide, usize, plain, nothing, heard, says, Stays, stay_dropped, walk_of, ends_at, Goes-dropped, None, length, get_or, type_size, times_below, one_below, never, Option, after, proved_at, looks, shuts, RawPtr, RawPtr-copy, ptr_val, addr}
use Rattle.slot_ring.proofs.Memory.{filled_within, place_seen}
use Rattle.slot_ring.specs.Places.{IsFilled}
use Rattle.slot_ring.specs.Ownership.{place_shared, row_shared}
use Rattle.slot_ring.specs.contracts.slots.Slots.{the_row}
use Rattle.slot_ring.specs.contracts.slots.Slots.get as f
use Rattle.slot_ring.proofs.slots.Slots.get.Statement.{statement}
use Rattle.slot_ring.proofs.slots.Slots.get.Code as code

pub get_spec : {M : Type 1} → statement M
get_spec 𝓤 𝓛 𝓜 𝓡 wired X W LX LW g d dd met md =
    let T = f.ended X W g d dd in let c = f.clauses X W g d dd 𝓛 𝓜.mem 𝓡.returns in let 𝓣 = tables 𝓤 𝓛.H 𝓜 𝓡 𝓡.env in
    let kinds = bounded (a_type ∷ a_type ∷ []) (X, (W, tt)) (dcons d (dcons dd dnil)) in
    let function : Fn = inst_fn kinds code.function in
    let R = param 0 X in let S = the_row R (param 1 W) g in let Ref = RefOf (0 ∷ []) tt (plain (λ _. S)) (λ _. tt) in
    let stayed : Stays T.signature.params T.kept = (stay_dropped Ref yes, (stay_dropped (plain (λ _. usize)) yes, tt)) in
    let W' = walk_of 𝓛 T stayed c in
    proved_at 𝓛 T stayed c 𝓜 𝓡
    (Goes-dropped 𝓛 3 Ref yes (λ κs x w. refl), (Goes-dropped 𝓛 3 (plain (λ _. usize)) yes (λ κs x w. refl), tt))
    (f.Key.name kinds) function (code.unfolded 𝓤 𝓛.H 𝓜 𝓡 wired (X, (W, tt)) d dd) (λ y are.
    let κs = y.0.0 in let qs = y.0.1 in let a = y.0.3 in let κ = κs.0 in let q = qs.0 in
    let self : Bor S.Denot = a.0 in let b = self.ref_ptr.0 in let o = self.ref_ptr.1 in let h = self.now in let index : ℕ = a.1.0 in
    let Vals = List Val × (List Val × Unit {0}) in
    let vss : Vals = (shr_vals self, (vint w64 index ∷ [], tt)) in
    let same : vss ≡ y.0.4 = λ j. (sym (shr_Tells (named 0) κ S self y.0.4.0 are.0) j, (sym are.1.0.0 j, tt)) in
    let at : Vals → W'.Ghost = λ us. ((κs, qs, y.0.2, a, us), tt) in
    subst (λ (us : Vals). ent 𝓤 (W'.pre (at us)) (WpFn 𝓤 𝓛.H 𝓣.C 𝓣.Λ function (W'.args (at us)) (W'.post (at us)))) same (
    let z = at vss in let size = type_size R in
    let Tokens = ‵ (flft κs.1.0 qs.1.0) ⊛ ‵ (flft κs.1.1.0 qs.1.1.0) ⊛ ‵ ftrue in
    qed 𝓛 (((‵ (flft κ q) ⊛ Tokens) ⊛ ‵ ((ShrRef (named 0) κ S).own_val self vss.0) ⊛ ‵ (usize.own_val index vss.1.0) ⊛ ‵ ftrue)
    ∷ (raw (fact 𝓤 (κs.1.0 ⊑ X.lives)) ⊛ raw (fact 𝓤 (κs.1.1.0 ⊑ W.lives)) ⊛ raw (fact 𝓤 (IsFilled h.places index))) ∷ []) ∵
    move ! (1 ∷ []) $ split ! $ drop ! $ split ! $ drop ! $ heard ! _ (λ asked.
    split ! $ split ! $ move ! (2 ∷ []) $ split ! $ keep ! (0 ∷ 2 ∷ 3 ∷ []) $
    -- [self; the token of its lifetime; the other tokens]
    enter ! _ _ _ _ _ $ alloc_all ! (λ l. pass_all ! refl ((tt, tt), ((tt, record { fits = are.1.0.1 }), tt)) $
    let En = env function.locals l in
    fsplit ! $ drop ! $ unhide ! $ fsplit ! $ fsplit ! $ fsplit ! $ hide ! $ move ! (3 ∷ []) $
    in_a_block ! h.start (λ p. row_shared R p h.places κ) (id⊢ 𝓤 (never 𝓤)) (λ bb bo e. fsplit ! $ flt_l ! (λ small. fsplit ! $
    -- [the places; nothing of the right; the field that points to them, shared; the other field; the room that no field takes; the token; the other tokens]
    let n = length h.places in let x : X.Denot = asked.0 in let within = filled_within h.places index x asked.1 in
    let tiny : size < 2 ^ 64 = omega (arith, one_below n size (2 ^ 63) (omega arith) small) in
    let far : index * size < 2 ^ 64 = omega (arith, times_below index n size (2 ^ 63) (omega arith) small) in
    let place : ℕ = index * size + bo in let start = ptr_val h.start in
    move ! (2 ∷ 5 ∷ []) $ looks ! tt RawPtr ((RawPtr-copy).copied _ 𝓤 𝓛).opens h.start b (o + 0) (λ part us. move ! (1 ∷ []) $ feq_l ! (λ is.
    rewrite ! 0 (λ (ws : List Val). ‵ (cell_at part RawPtr.mir ws b (o + 0))) (is ∙ ap (λ (p : Ptr). ptr_val p ∷ []) e) refl $ first ! $ blocks ! $
    sets ! (of_opd ! (load ! (through ! refl (fld ! refl (stop !))) (look ! 0 refl))) refl (tt, tt) $
    feq_i ! (List Val) (vptr bb bo ∷ []) (ptr_val h.start ∷ []) (ap (λ (p : Ptr). ptr_val p ∷ []) (sym e)) $ move ! (1 ∷ 0 ∷ []) $ shuts ! tt RawPtr part h.start (vptr bb bo ∷ []) b (o + 0) $
    -- [the token; the field; the places; ..; the other tokens]
    sets ! (bin ! (get ! refl) (size_lit ! (record { fits = tiny })) (record { fits = far })) refl (tt, record { fits = far }) $
    sets ! (bin ! (get ! refl) (get ! refl) tt) refl (tt, tt) $
    move ! (2 ∷ []) $ use1 𝓛 (‵ (place_shared R bb place (get_or h.places index None) κ)) (place_seen X LX 𝓛 bb κ h.places index bo place refl within) $
    rewrite ! 0 (λ (p : Option X.Denot). ‵ (place_shared R bb place p κ)) asked.1 refl $ hide ! $
    sets_last ! (addr ! (through ! refl (stop !))) refl (tt, tt) $ exec ! 𝓣.C 𝓣.Λ En (after 1 function.body) (at_ret En (W'.post z)) $ sets ! (of_opd ! (get ! refl)) refl (tt, tt) $
    feq_i ! (List Val) (vptr bb place ∷ []) (vptr bb place ∷ []) refl $ fjoin ! $
    returns ! (look_at ! 0 refl) $ free_all ! refl $
    -- [the result; the token; ..; the other tokens]
    suffices ! _ (ends_at 𝓛 T stayed c z (vptr bb place) (record { ref_ptr = (bb, place); now = x }) (tt, (tt, tt)) (tt, (tt, tt))) $ says ! asked.1 $
    move ! (1 ∷ 6 ∷ []) $ join ! $ frame ! $ keep ! (0 ∷ []) $ nothing ! $ nothing ! $ fjoin ! $ nothing ! $ fjoin ! $ done !))))))))
