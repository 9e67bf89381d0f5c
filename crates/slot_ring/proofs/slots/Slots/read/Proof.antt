-- `read` moves a value out, and leaves its place empty. Assumes `Logic`.
use Rattle.slot_ring.proofs.Walks.{◌≡◌, refl, sym, ap, subst, ◌∙◌, ℕ, ◌+◌, ◌*◌, ◌<◌, ◌^◌, arith, List, [], ◌∷◌, full_share, ent, id⊢, ftrue, fat, froom, flft, Fn, named, w64, a_type, dcons, dnil, inst_fn, Val, vint, WpFn, fact, ◌⊑◌, tables, ‵, raw, ◌⊛◌, at_ret, ◌$◌, ◌∵◌, !, qed, move, keep, drop, use1, use2, pick, learn, some, given, split, join, rewrite, fsplit, fsplit3, fjoin, fjoin3, flt_i, flt_l, suffices, frame, done, whole, sub, look_in, look, load, stop, fld, size_lit, of_opd, bin, first, blocks, exec, returns, enter, alloc_all, pass_all, free_all, look_at, get, through, sets, sets_last, env, yes, shows, cell_at, bounded, layout, param, param_laws, Ptr, in_a_block, MutBor, MutRef, mut_vals, mut_Tells, usize, plain, nothing, opens, closes, peeks, heard, says, Stays, stay_dropped, stay_ref, walk_of, ends_at, Goes-dropped, Goes-ref, None, length, set, get_or, type_size, times_below, one_below, as_raw, never, block_ptr, Option, length-set, after, proved_at}
use Rattle.slot_ring.proofs.Memory.{Fits, filled_within, others, place_out, place_in, value_out}
use Rattle.slot_ring.specs.Places.{IsFilled}
use Rattle.slot_ring.specs.Ownership.{place_owned, places_owned, block_right, row_owned}
use Rattle.slot_ring.specs.contracts.slots.Slots.{the_row}
use Rattle.slot_ring.specs.contracts.slots.Slots.read as f
use Rattle.slot_ring.proofs.slots.Slots.TheLaws.{lowers}
use Rattle.slot_ring.proofs.slots.Slots.read.Statement.{statement}
use Rattle.slot_ring.proofs.slots.Slots.read.Code as code

pub read_spec : {M : Type 1} → statement M
read_spec 𝓤 𝓛 𝓜 𝓡 wired X W LX LW g d dd met md =
    let T = f.ended X W g d dd in let c = f.clauses X W g d dd 𝓛 𝓜.mem 𝓡.returns in let 𝓣 = tables 𝓤 𝓛.H 𝓜 𝓡 𝓡.env in
    let kinds = bounded (a_type ∷ a_type ∷ []) (X, (W, tt)) (dcons d (dcons dd dnil)) in
    let function : Fn = inst_fn kinds code.function in
    let R = param 0 X in let S = the_row R (param 1 W) g in
    let stayed : Stays T.signature.params T.kept = (stay_ref (0 ∷ []) tt (plain (λ _. S)), (stay_dropped (plain (λ _. usize)) yes, tt)) in
    let W' = walk_of 𝓛 T stayed c in
    proved_at 𝓛 T stayed c 𝓜 𝓡
    (Goes-ref 𝓛 3 0 tt (plain (λ _. S)), (Goes-dropped 𝓛 3 (plain (λ _. usize)) yes (λ κs x w. refl), tt))
    (f.Key.name kinds) function (code.unfolded 𝓤 𝓛.H 𝓜 𝓡 wired (X, (W, tt)) d dd) (λ y are.
    let κs = y.0.0 in let qs = y.0.1 in let a = y.0.3 in let κ = κs.0 in let q = qs.0 in
    let self : MutBor S.Denot = a.0 in let b = self.ref_ptr.0 in let o = self.ref_ptr.1 in let h = self.now in let index : ℕ = a.1.0 in
    let Vals = List Val × (List Val × Unit {0}) in
    let vss : Vals = (mut_vals self, (vint w64 index ∷ [], tt)) in
    let same : vss ≡ y.0.4 = λ j. (sym (mut_Tells (named 0) κ S self y.0.4.0 are.0) j, (sym are.1.0.0 j, tt)) in
    let at : Vals → W'.Ghost = λ us. ((κs, qs, y.0.2, a, us), tt) in
    subst (λ (us : Vals). ent 𝓤 (W'.pre (at us)) (WpFn 𝓤 𝓛.H 𝓣.C 𝓣.Λ function (W'.args (at us)) (W'.post (at us)))) same (
    let z = at vss in let token = g.dealloc_token h.lender in let size = type_size R in let lowered = lowers R (param 1 W) g (param_laws 0 X LX) (param_laws 1 W LW) in
    let Tokens = ‵ (flft κs.1.0 qs.1.0) ⊛ ‵ (flft κs.1.1.0 qs.1.1.0) ⊛ ‵ ftrue in
    qed 𝓛 (((‵ (flft κ q) ⊛ Tokens) ⊛ ‵ ((MutRef (named 0) κ S).own_val self vss.0) ⊛ ‵ (usize.own_val index vss.1.0) ⊛ ‵ ftrue)
    ∷ (raw (fact 𝓤 (κs.1.0 ⊑ X.lives)) ⊛ raw (fact 𝓤 (κs.1.1.0 ⊑ W.lives)) ⊛ raw (fact 𝓤 (IsFilled h.places index))) ∷ []) ∵
    move ! (1 ∷ []) $ split ! $ drop ! $ split ! $ drop ! $ heard ! _ (λ asked.
    split ! $ split ! $ move ! (2 ∷ []) $ split ! $ keep ! (0 ∷ 2 ∷ 3 ∷ []) $
    -- [self; the token of its lifetime; the other tokens]
    enter ! _ _ _ _ _ $ alloc_all ! (λ l. pass_all ! refl ((tt, tt), ((tt, record { fits = are.1.0.1 }), tt)) $
    let En = env function.locals l in
    fsplit3 ! $ move ! (1 ∷ 2 ∷ 3 ∷ []) $ opens ! tt S b o (λ us.
    move ! (1 ∷ []) $ peeks ! S _ (shows 𝓛 S) h us (λ is. fsplit ! $ move ! (1 ∷ []) $
    in_a_block ! h.start (λ p. row_owned R token p h.places) (id⊢ 𝓤 (never 𝓤)) (λ bb bo e. fsplit ! $ flt_l ! (λ small. fsplit ! $
    -- [the places; the right to their block; the fields; the cell of self; the open borrow, in three entries; where self lies; the other tokens]
    let n = length h.places in let x : X.Denot = asked.0 in let within = filled_within h.places index x asked.1 in
    let tiny : size < 2 ^ 64 = omega (arith, one_below n size (2 ^ 63) (omega arith) small) in
    let far : index * size < 2 ^ 64 = omega (arith, times_below index n size (2 ^ 63) (omega arith) small) in
    let place : ℕ = index * size + bo in
    let Cell = λ (ws : List Val). ‵ (cell_at full_share S.mir ws b o) in
    let word = lowered.val_is h us is ∙ ap (λ (p : Ptr). lowered.lowered (record h { start = p }) ∷ []) e in
    rewrite ! 3 Cell word refl $ first ! $ blocks ! $
    sets ! (of_opd ! (load ! (through ! refl (fld ! refl (stop !))) (look_in ! 3 (sub ! 0 refl (whole !))))) refl (tt, tt) $
    sets ! (bin ! (get ! refl) (size_lit ! (record { fits = tiny })) (record { fits = far })) refl (tt, record { fits = far }) $
    sets ! (bin ! (get ! refl) (get ! refl) tt) refl (tt, tt) $
    use1 𝓛 (‵ (place_owned R bb place (get_or h.places index None)) ⊛ ‵ (others X LX 𝓛 bb h.places index bo)) (place_out X LX 𝓛 bb h.places index bo place refl within) $ split ! $
    rewrite ! 0 (λ (p : Option X.Denot). ‵ (place_owned R bb place p)) asked.1 refl $
    use1 𝓛 (some (λ (v : Val). given (Fits (layout X) v) (‵ (fat full_share (layout X) bb place v) ⊛ ‵ (X.own_val x (v ∷ []))))) (value_out X LX 𝓛 bb x place) $
    pick ! (λ v. learn ! (λ good. split ! $ sets_last ! (of_opd ! (load ! (through ! refl (stop !)) (look ! 0 refl))) refl good $
    exec ! 𝓣.C 𝓣.Λ En (after 1 function.body) (at_ret En (W'.post z)) $ sets ! (of_opd ! (get ! refl)) refl good $
    use1 𝓛 (‵ (froom (layout X) bb place)) (𝓛.laws.at_room (layout X) bb place v) $ as_raw ! (layout X) bb place $
    -- [the empty place; what the value owns; the other places; the right; ..]
    let after_it : S.Denot = record h { places = set h.places index None } in let long = sym (length-set h.places index None) in
    move ! (0 ∷ 2 ∷ []) $ use2 𝓛 (‵ (places_owned R bb bo after_it.places)) (place_in X LX 𝓛 bb h.places index bo place refl within None) $
    move ! (0 ∷ 2 ∷ []) $ rewrite ! 1 (λ (m : ℕ). ‵ (block_right R token (block_ptr bb bo) m)) long refl $ fjoin ! $
    flt_i ! (length after_it.places * size) (2 ^ 63) (subst (λ m. m * size < 2 ^ 63) long small) $ fjoin ! $
    -- [the row; what the value owns; the fields; the cell of self; ..]
    rewrite ! 0 (λ (p : Ptr). ‵ (row_owned R token p after_it.places)) (sym e) refl $ rewrite ! 3 Cell (sym word) refl $
    move ! (2 ∷ 0 ∷ []) $ fjoin ! $ move ! (2 ∷ 0 ∷ 3 ∷ 4 ∷ 5 ∷ []) $ closes ! tt S after_it us b o $
    returns ! (look_at ! 0 refl) $ free_all ! refl $
    -- [self, in two entries; the token; what the value owns; where self lies; the other tokens]
    suffices ! _ (ends_at 𝓛 T stayed c z v x (after_it, (tt, tt)) (tt, (tt, tt))) $ says ! (asked.1, refl, refl) $
    move ! (2 ∷ 5 ∷ []) $ join ! $ frame ! $ move ! (3 ∷ 0 ∷ 1 ∷ []) $ fjoin3 ! $ nothing ! $ nothing ! $ fjoin ! $ move ! (1 ∷ 0 ∷ []) $ fjoin ! $ frame ! $ done !))))))))))
