-- The least delta of the reports of a name.
use Rattle.std.proofs.Common.{◌≡◌, ℕ, Bool, true, false, cond, List, [], ◌∷◌, fold, Option, Some, None, ◌⊎◌, inl, inr, refl, sym, ap, ◌∙◌, arith}
use Rattle.std.specs.Prelude.{ℤ, ◌≤ℤ◌, int_lt, if◌then◌else◌}
use Rattle.std.specs.Int.{int_min}
use Rattle.std.specs.Map.{values_of}
use Rattle.std.proofs.lemmas.Int.{ints, clamps}
use Rattle.ntp_sync.specs.declared.sync.LaneReport.{LaneReport}
use Rattle.ntp_sync.specs.Found.{is_named, lesser, least_next, least_in, AreAbove}

abbrev pub Entries : Type 0
Entries = List (ℕ × LaneReport)

-- one of the reports with this name has this delta
abbrev pub Reaches : List ℕ → ℤ → Entries → Type 0
Reaches cname least [] = ⊥
Reaches cname least (e ∷ es) = ((is_named cname e.1 ≡ true) × (e.1.delta ≡ least)) ⊎ Reaches cname least es

-- no report has this name
abbrev pub NoneNamed : List ℕ → Entries → Type 0
NoneNamed cname [] = Unit {0}
NoneNamed cname (e ∷ es) = (is_named cname e.1 ≡ false) × NoneNamed cname es

abbrev NotAbove : ℤ → Option ℤ → Type 0
NotAbove least None = Unit {0}
NotAbove least (Some a) = least ≤ℤ a

record Facts (cname : List ℕ) (least : ℤ) (a : Option ℤ) (es : Entries) : Type 0 where
  start : NotAbove least a
  above : AreAbove cname least es
  reached : (a ≡ Some least) ⊎ Reaches cname least es

start_is : (a : Option ℤ) (least : ℤ) → a ≡ Some least → NotAbove least a
start_is None least e = tt
start_is (Some x) least e = let same : x ≡ least = cc in omega (arith, ints)

lesser_bounds : (a : Option ℤ) (d least : ℤ) → NotAbove least (lesser a d) → NotAbove least a × (least ≤ℤ d)
lesser_bounds None d least h = (tt, h)
lesser_bounds (Some x) d least h = (omega (arith, ints, clamps), omega (arith, ints, clamps))

min_cases : (x d : ℤ) → (int_min x d ≡ x) ⊎ (int_min x d ≡ d)
min_cases x d = elim (int_lt d x) as (λ b. (cond b d x ≡ x) ⊎ (cond b d x ≡ d)) [ true ↦ inr refl | false ↦ inl refl ]

some_min : (x d least : ℤ) → Some (int_min x d) ≡ Some least → (Some x ≡ Some least) ⊎ (d ≡ least)
some_min x d least e =
    let same : int_min x d ≡ least = cc in
    elim (min_cases x d) [ inl p ↦ inl (ap (λ (z : ℤ). Some z) (sym p ∙ same)) | inr p ↦ inr (sym p ∙ same) ]

lesser_reached : (a : Option ℤ) (d least : ℤ) → lesser a d ≡ Some least → (a ≡ Some least) ⊎ (d ≡ least)
lesser_reached None d least e = inr cc
lesser_reached (Some x) d least e = some_min x d least e

join : (b : Bool) (cname : List ℕ) (e : ℕ × LaneReport) (es : Entries) (a : Option ℤ) (least : ℤ) → is_named cname e.1 ≡ b
    → Facts cname least (if b then lesser a e.1.delta else a) es → Facts cname least a (e ∷ es)
join true cname e es a least is h =
    let bounds = lesser_bounds a e.1.delta least h.start in
    record {
      start = bounds.0;
      above = (λ named. bounds.1, h.above);
      reached = elim h.reached [
        | inl p ↦ elim (lesser_reached a e.1.delta least p) [ inl q ↦ inl q | inr q ↦ inr (inl (is, q)) ]
        | inr p ↦ inr (inr p)
      ];
    }
join false cname e es a least is h =
    record {
      start = h.start;
      above = (λ named. absurd (let both : false ≡ true = sym is ∙ named in cc), h.above);
      reached = elim h.reached [ inl p ↦ inl p | inr p ↦ inr (inr p) ];
    }

facts : (cname : List ℕ) (es : Entries) (a : Option ℤ) (least : ℤ) → fold (least_next cname) a (values_of es) ≡ Some least → Facts cname least a es
facts cname [] a least e = record { start = start_is a least e; above = tt; reached = inl e }
facts cname (e ∷ es) a least h = join (is_named cname e.1) cname e es a least refl (facts cname es (least_next cname a e.1) least h)

pub record Found (cname : List ℕ) (least : ℤ) (es : Entries) : Type 0 where
  pub above : AreAbove cname least es
  pub reached : Reaches cname least es

pub found : (cname : List ℕ) (es : Entries) (least : ℤ) → least_in cname (values_of es) ≡ Some least → Found cname least es
found cname es least e =
    let f = facts cname es None least e in
    record { above = f.above; reached = elim f.reached [ inl p ↦ absurd cc | inr p ↦ p ] }

-- ---- no report of the name

stays_some : (cname : List ℕ) (es : Entries) (x : ℤ) → fold (least_next cname) (Some x) (values_of es) ≡ None → ⊥
stays_some cname [] x e = cc
stays_some cname (e ∷ es) x h =
    elim (is_named cname e.1) as (λ b. fold (least_next cname) (if b then Some (int_min x e.1.delta) else Some x) (values_of es) ≡ None → ⊥)
    [ true ↦ stays_some cname es (int_min x e.1.delta) | false ↦ stays_some cname es x ] h

none_by : (b : Bool) (cname : List ℕ) (e : ℕ × LaneReport) (es : Entries) → is_named cname e.1 ≡ b → fold (least_next cname) (if b then Some e.1.delta else None) (values_of es) ≡ None
    → (fold (least_next cname) None (values_of es) ≡ None → NoneNamed cname es) → NoneNamed cname (e ∷ es)
none_by true cname e es is h rest = absurd (stays_some cname es e.1.delta h)
none_by false cname e es is h rest = (is, rest h)

pub none_named : (cname : List ℕ) (es : Entries) → least_in cname (values_of es) ≡ None → NoneNamed cname es
none_named cname [] e = tt
none_named cname (e ∷ es) h = none_by (is_named cname e.1) cname e es refl h (none_named cname es)
