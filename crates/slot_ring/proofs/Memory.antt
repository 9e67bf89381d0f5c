-- A place is taken out of a row and put back, and room for an array is a row of empty places. Assumes `Logic`.
use Rattle.slot_ring.proofs.Walks.{◌≡◌, refl, sym, ap, ◌∙◌, ℕ, zero, suc, ◌+◌, ◌*◌, ◌<◌, ◌^◌, arith, zero-mul, suc-mul, List, [], ◌∷◌, Ura, full_share, ent, sep, ex, guard, via, snd∗, Fml, Lft, ftrue, fsep, fat, froom, ty_array, Val, Logic, sem, ‵, ◌⊛◌, some, ◌$◌, ◌∵◌, !, qed, by, move, keep, use1, use2, split, pick, rewrite, fsplit, fjoin, check, show, done, RattleType, Typed, Is, shows, part_at, param, layout, Laws, param_laws, peeks, part_in, part_out, Option, Some, None, length, set, get_or, replicate, type_size}
use lib.Dec.{T}
use mir.Syntax.{Ty}
use mir.Val.{has_ty, WT}
use mir.Raw.{raw as bare}
use prog.Memory.{size as size_in, align, capped}
use prog.Capped.{capped_is}
use prog.RawLaws.{size-raw, align-raw}
use Rattle.slot_ring.specs.Ownership.{place_owned, places_owned, place_shared, places_shared}

-- a machine value of a type
abbrev pub Fits : Ty → Val → Type 0
Fits τ v = T (has_ty τ v) × WT v

-- machine values of one type are one
pub single : (τ : Ty) (vs : List Val) → Typed (τ ∷ []) vs → (v : Val) × (vs ≡ v ∷ []) × Fits τ v
single τ [] typed = absurd typed
single τ (v ∷ []) typed = (v, refl, typed.0)
single τ (v ∷ w ∷ vs) typed = absurd typed.1

-- a filled place lies within the row
pub filled_within : {X : Type 0} (cs : List (Option X)) (i : ℕ) (x : X) → get_or cs i None ≡ Some x → i < length cs
filled_within [] i x is = cc
filled_within (c ∷ cs) zero x is = omega arith
filled_within (c ∷ cs) (suc i) x is = let less = filled_within cs i x is in omega arith

module _ (X : RattleType) (L : Laws X) {M : Type 1} {𝓤 : Ura M} (𝓛 : Logic 𝓤) (b : ℕ) where
  open 𝓛 use {H}

  abbrev R : RattleType
  R = param 0 X

  abbrev size : ℕ
  size = type_size R

  abbrev Place : Type 0
  Place = Option X.Denot

  abbrev Row : ℕ → List Place → Fml
  Row = places_owned R b

  -- the row without the place at an index
  abbrev pub others : List Place → ℕ → ℕ → Fml
  others [] i o = ftrue
  others (c ∷ cs) zero o = Row (o + size) cs
  others (c ∷ cs) (suc i) o = fsep (place_owned R b o c) (others cs i (o + size))

  pub place_out : (cs : List Place) (i o at : ℕ) → at ≡ i * size + o → i < length cs
      → ent 𝓤 (sem 𝓛 (Row o cs)) (sep 𝓤 (sem 𝓛 (place_owned R b at (get_or cs i None))) (sem 𝓛 (others cs i o)))
  place_out [] i o at is within = absurd (omega arith)
  place_out (c ∷ cs) zero o at is within =
      let here : o ≡ at = omega (arith, zero-mul size) in
      qed 𝓛 (‵ (Row o (c ∷ cs)) ∷ []) ∵ fsplit ! $ rewrite ! 0 (λ (k : ℕ). ‵ (place_owned R b k c)) here refl $ done !
  place_out (c ∷ cs) (suc i) o at is within =
      qed 𝓛 (‵ (Row o (c ∷ cs)) ∷ []) ∵ fsplit ! $ move ! (1 ∷ []) $
      use1 𝓛 (‵ (place_owned R b at (get_or cs i None)) ⊛ ‵ (others cs i (o + size))) (place_out cs i (o + size) at (omega (arith, suc-mul i size)) (omega arith)) $
      split ! $ move ! (2 ∷ 1 ∷ []) $ fjoin ! $ move ! (1 ∷ 0 ∷ []) $ done !

  pub place_in : (cs : List Place) (i o at : ℕ) → at ≡ i * size + o → i < length cs → (c : Place)
      → ent 𝓤 (sep 𝓤 (sem 𝓛 (place_owned R b at c)) (sem 𝓛 (others cs i o))) (sem 𝓛 (Row o (set cs i c)))
  place_in [] i o at is within d = absurd (omega arith)
  place_in (c ∷ cs) zero o at is within d =
      let here : at ≡ o = omega (arith, zero-mul size) in
      qed 𝓛 (‵ (place_owned R b at d) ∷ ‵ (Row (o + size) cs) ∷ []) ∵ rewrite ! 0 (λ (k : ℕ). ‵ (place_owned R b k d)) here refl $ fjoin ! $ done !
  place_in (c ∷ cs) (suc i) o at is within d =
      qed 𝓛 (‵ (place_owned R b at d) ∷ ‵ (fsep (place_owned R b o c) (others cs i (o + size))) ∷ []) ∵ move ! (1 ∷ []) $ fsplit ! $ move ! (2 ∷ 1 ∷ []) $
      use2 𝓛 (‵ (Row (o + size) (set cs i d))) (place_in cs i (o + size) at (omega (arith, suc-mul i size)) (omega arith) d) $ move ! (1 ∷ 0 ∷ []) $ fjoin ! $ done !

  -- a place of a shared row is shared
  pub place_seen : (κ : Lft) (cs : List Place) (i o at : ℕ) → at ≡ i * size + o → i < length cs
      → ent 𝓤 (sem 𝓛 (places_shared R b o cs κ)) (sem 𝓛 (place_shared R b at (get_or cs i None) κ))
  place_seen κ [] i o at is within = absurd (omega arith)
  place_seen κ (c ∷ cs) zero o at is within =
      let here : o ≡ at = omega (arith, zero-mul size) in
      qed 𝓛 (‵ (places_shared R b o (c ∷ cs) κ) ∷ []) ∵ fsplit ! $ keep ! (0 ∷ []) $ rewrite ! 0 (λ (k : ℕ). ‵ (place_shared R b k c κ)) here refl $ done !
  place_seen κ (c ∷ cs) (suc i) o at is within =
      via 𝓤 (sem 𝓛 (places_shared R b (o + size) cs κ)) (snd∗ 𝓤 (sem 𝓛 (place_shared R b o c κ)) (sem 𝓛 (places_shared R b (o + size) cs κ)))
      (place_seen κ cs i (o + size) at (omega (arith, suc-mul i size)) (omega arith))

  -- what is owned of a value in memory is a machine value there and what it owns
  pub value_out : (x : X.Denot) (o : ℕ)
      → ent 𝓤 (sem 𝓛 (part_at R full_share x b o)) (ex 𝓤 (λ (v : Val). guard 𝓤 (Fits (layout X) v) (sep 𝓤 (H.at full_share (layout X) b o v) (sem 𝓛 (X.own_val x (v ∷ []))))))
  value_out x o = qed 𝓛 (‵ (part_at R full_share x b o) ∷ []) ∵
      use1 𝓛 (some (λ (v : Val). ‵ (fat full_share (layout X) b o v) ⊛ ‵ (X.own_val x (v ∷ [])))) (part_out 𝓛 R refl full_share x b o) $ pick ! (λ v. split ! $ move ! (1 ∷ []) $
      peeks ! R (Is R) (shows 𝓛 R) x (v ∷ []) (λ is.
      show ! (λ (w : Val). guard 𝓤 (Fits (layout X) w) (sep 𝓤 (H.at full_share (layout X) b o w) (sem 𝓛 (X.own_val x (w ∷ []))))) v $
      check ! (((param_laws 0 X L).lawful 𝓛).typed x (v ∷ []) is).0 $ move ! (1 ∷ 0 ∷ []) $ done !))

  pub value_in : (x : X.Denot) (o : ℕ) (v : Val) → ent 𝓤 (sep 𝓤 (H.at full_share (layout X) b o v) (sem 𝓛 (X.own_val x (v ∷ [])))) (sem 𝓛 (part_at R full_share x b o))
  value_in x o v = part_in 𝓛 R refl full_share x b o v

  -- room for n values is n empty places
  pub room_out : (n o : ℕ) → ent 𝓤 (H.room (ty_array (layout X) n) b o) (sem 𝓛 (Row o (replicate n None)))
  room_out zero o = qed 𝓛 (‵ (froom (ty_array (layout X) 0) b o) ∷ []) ∵ keep ! [] $ done !
  room_out (suc n) o = qed 𝓛 (‵ (froom (ty_array (layout X) (suc n)) b o) ∷ []) ∵
      use1 𝓛 (‵ (froom (layout X) b o) ⊛ ‵ (froom (ty_array (layout X) n) b (o + size))) (𝓛.laws.room_uncons (layout X) n b o) $ split ! $
      use1 𝓛 (‵ (place_owned R b o None)) (𝓛.laws.room-raw (layout X) b o) $ move ! (1 ∷ []) $
      use1 𝓛 (‵ (Row (o + size) (replicate n None))) (room_out n (o + size)) $ move ! (1 ∷ 0 ∷ []) $ fjoin ! $ done !

  pub room_in : (n o : ℕ) → ent 𝓤 (sem 𝓛 (Row o (replicate n None))) (H.room (ty_array (layout X) n) b o)
  room_in zero o = 𝓛.laws.room_nil (layout X) b o
  room_in (suc n) o = qed 𝓛 (‵ (Row o (replicate (suc n) None)) ∷ []) ∵ fsplit ! $
      use1 𝓛 (‵ (froom (layout X) b o)) (𝓛.laws.raw-room (layout X) b o) $ move ! (1 ∷ []) $
      use1 𝓛 (‵ (froom (ty_array (layout X) n) b (o + size))) (room_in n (o + size)) $ move ! (1 ∷ 0 ∷ []) $ by ! (𝓛.laws.room_cons (layout X) n b o)

-- where the product fits a word, the count is none or the size fits too
pub times_word : (n s : ℕ) → n * s < 2 ^ 64 → n * capped s ≡ n * s
times_word zero s fits = zero-mul (capped s) ∙ sym (zero-mul s)
times_word (suc n) s fits = let more = suc-mul n s in ap (λ k. suc n * k) (capped_is s (omega arith))

module _ (X : RattleType) where
  -- the type that a block of n places is lent for
  abbrev pub block : ℕ → Ty
  block n = bare (ty_array (layout X) n)

  pub block_size : (n : ℕ) → n * type_size (param 0 X) < 2 ^ 64 → capped (size_in (block n)) ≡ n * type_size (param 0 X)
  block_size n fits = ap capped (size-raw (ty_array (layout X) n)) ∙ capped_is (n * type_size (param 0 X)) fits

  pub block_align : (n : ℕ) → capped (align (block n)) ≡ capped (align (layout X))
  block_align n = ap capped (align-raw (ty_array (layout X) n))
