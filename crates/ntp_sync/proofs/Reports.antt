-- The offsets that are found are those of the definition.
use Rattle.std.proofs.Common.{◌≡◌, ◌<◌, ℕ, Bool, true, false, cond, nat_eq, List, [], ◌∷◌, ◌++◌, append_assoc, map, Option, Some, None, inl, inr, refl, sym, ap, subst, ◌∙◌, arith}
use Rattle.std.specs.Prelude.{ℤ, pos, negsuc, ◌+ℤ◌, ◌-ℤ◌, ◌≤ℤ◌}
use Rattle.std.specs.Cmp.{unsigned_tied}
use Rattle.std.specs.Map.{lookup, keys_of, values_of}
use Rattle.std.specs.List.Sorted.{IsStrictlySortedBy}
use Rattle.std.specs.Ordering.{nat_cmp, is_eq}
use Rattle.std.proofs.lemmas.Bool.{eq-eqb, eqb-true}
use Rattle.std.proofs.lemmas.Bool.Decides.{nat_tests}
use Rattle.std.proofs.lemmas.Int.{ints}
use lib.Pointwise.{bytes_decides}
use Rattle.ntp_sync.specs.declared.sync.LaneReport.{LaneReport}
use Rattle.ntp_sync.specs.Found.{is_named, natural, offsets_in, AreAbove, least_in}
use Rattle.ntp_sync.specs.Offsets.{Call, delta_of, report_of, kept, last_report, StandsFor, IsLeast, AreOffsets}
use Rattle.ntp_sync.proofs.Least.{Entries, Reaches, NoneNamed, Found, found, none_named}
use Rattle.ntp_sync.proofs.Order.{In, in_from, contains_from, Later, Rises, rises_from, increasing_from}

-- ---- names

named_is : (cname : List ℕ) (r : LaneReport) → is_named cname r ≡ true → r ≡ report_of cname r.delta
named_is cname r e = ap (λ (c : List ℕ). report_of c r.delta) ((bytes_decides r.cname cname).0 e)

is_named_itself : (cname : List ℕ) (delta : ℤ) → is_named cname (report_of cname delta) ≡ true
is_named_itself cname delta = (bytes_decides cname cname).1 refl

-- ---- reports at their lanes

at_by : (b : Bool) (lane : ℕ) (e : ℕ × LaneReport) (es : Entries) (r : LaneReport) → nat_eq lane e.0 ≡ b → cond b (Some e.1) (kept es lane) ≡ Some r
    → (kept es lane ≡ Some r → In (lane, r) es) → In (lane, r) (e ∷ es)
at_by true lane e es r is h rest =
    let key : e.0 ≡ lane = sym (eqb-true lane e.0 is) in
    let value : e.1 ≡ r = cc in
    inl (λ i. (key i, value i))
at_by false lane e es r is h rest = inr (rest h)

in_from_kept : (es : Entries) (lane : ℕ) (r : LaneReport) → kept es lane ≡ Some r → In (lane, r) es
in_from_kept [] lane r e = absurd cc
in_from_kept (e ∷ es) lane r h = at_by (nat_eq lane e.0) lane e es r refl h (in_from_kept es lane r)

-- a lane above another isn't the other
apart : (k lane : ℕ) → k < lane → nat_eq lane k ≡ false
apart k lane lt = grind (arith, nat_tests)

later_in : (k : ℕ) (es : Entries) (lane : ℕ) (r : LaneReport) → Later k (keys_of es) → In (lane, r) es → k < lane
later_in k [] lane r later h = absurd h
later_in k (e ∷ es) lane r later (inl same) = let key : e.0 ≡ lane = ap (λ (x : ℕ × LaneReport). x.0) same in omega (arith, later.0)
later_in k (e ∷ es) lane r later (inr h) = later_in k es lane r later.1 h

kept_from_in : (es : Entries) (lane : ℕ) (r : LaneReport) → Rises (keys_of es) → In (lane, r) es → kept es lane ≡ Some r
kept_from_in [] lane r rises h = absurd h
kept_from_in (e ∷ es) lane r rises (inl same) =
    let key : nat_eq lane e.0 ≡ true = eq-eqb lane e.0 (sym (ap (λ (x : ℕ × LaneReport). x.0) same)) in
    ap (λ (b : Bool). cond b (Some e.1) (kept es lane)) key ∙ ap (λ (x : ℕ × LaneReport). Some x.1) same
kept_from_in (e ∷ es) lane r rises (inr h) =
    let other : nat_eq lane e.0 ≡ false = apart e.0 lane (later_in e.0 es lane r rises.0 h) in
    ap (λ (b : Bool). cond b (Some e.1) (kept es lane)) other ∙ kept_from_in es lane r rises.1 h

-- ---- the lanes of the offsets rise

later_by : (b : Bool) (k lane offset : ℕ) (rest : List (ℕ × ℕ)) → k < lane → Later k (map (λ o. o.0) rest) → Later k (map (λ o. o.0) (cond b ((lane, offset) ∷ rest) rest))
later_by true k lane offset rest lt h = (lt, h)
later_by false k lane offset rest lt h = h

later_offsets : (k : ℕ) (cname : List ℕ) (least : ℤ) (es : Entries) → Later k (keys_of es) → Later k (map (λ o. o.0) (offsets_in cname least es))
later_offsets k cname least [] h = tt
later_offsets k cname least (e ∷ es) h = later_by (is_named cname e.1) k e.0 (natural (e.1.delta -ℤ least)) (offsets_in cname least es) h.0 (later_offsets k cname least es h.1)

rises_by : (b : Bool) (lane offset : ℕ) (rest : List (ℕ × ℕ)) → Later lane (map (λ o. o.0) rest) → Rises (map (λ o. o.0) rest) → Rises (map (λ o. o.0) (cond b ((lane, offset) ∷ rest) rest))
rises_by true lane offset rest later h = (later, h)
rises_by false lane offset rest later h = h

rises_offsets : (cname : List ℕ) (least : ℤ) (es : Entries) → Rises (keys_of es) → Rises (map (λ o. o.0) (offsets_in cname least es))
rises_offsets cname least [] h = tt
rises_offsets cname least (e ∷ es) h =
    rises_by (is_named cname e.1) e.0 (natural (e.1.delta -ℤ least)) (offsets_in cname least es) (later_offsets e.0 cname least es h.0) (rises_offsets cname least es h.1)

-- ---- each offset is a lane's

abbrev Comes : List ℕ → ℤ → Entries → ℕ → ℕ → Type 0
Comes cname least es lane offset = (delta : ℤ) × In (lane, report_of cname delta) es × (offset ≡ natural (delta -ℤ least))

comes_by : (b : Bool) (cname : List ℕ) (least : ℤ) (e : ℕ × LaneReport) (es : Entries) (lane offset : ℕ) → is_named cname e.1 ≡ b
    → In (lane, offset) (cond b ((e.0, natural (e.1.delta -ℤ least)) ∷ offsets_in cname least es) (offsets_in cname least es))
    → (In (lane, offset) (offsets_in cname least es) → Comes cname least es lane offset) → Comes cname least (e ∷ es) lane offset
comes_by true cname least e es lane offset is (inl same) rest =
    let key : e.0 ≡ lane = ap (λ (x : ℕ × ℕ). x.0) same in
    (e.1.delta, inl (λ i. (key i, named_is cname e.1 is i)), sym (ap (λ (x : ℕ × ℕ). x.1) same))
comes_by true cname least e es lane offset is (inr h) rest = let c = rest h in (c.0, inr c.1, c.2)
comes_by false cname least e es lane offset is h rest = let c = rest h in (c.0, inr c.1, c.2)

comes : (cname : List ℕ) (least : ℤ) (es : Entries) (lane offset : ℕ) → In (lane, offset) (offsets_in cname least es) → Comes cname least es lane offset
comes cname least [] lane offset h = absurd h
comes cname least (e ∷ es) lane offset h = comes_by (is_named cname e.1) cname least e es lane offset refl h (comes cname least es lane offset)

-- ---- each lane's offset is there

goes_by : (b : Bool) (least : ℤ) (e : ℕ × LaneReport) (lane : ℕ) (cname : List ℕ) (delta : ℤ) (rest : List (ℕ × ℕ)) → is_named cname e.1 ≡ b → e ≡ (lane, report_of cname delta)
    → In (lane, natural (delta -ℤ least)) (cond b ((e.0, natural (e.1.delta -ℤ least)) ∷ rest) rest)
goes_by true least e lane cname delta rest is same = inl (λ i. ((same i).0, natural ((same i).1.delta -ℤ least)))
goes_by false least e lane cname delta rest is same =
    absurd (let both : false ≡ true = sym is ∙ ap (λ (x : ℕ × LaneReport). is_named cname x.1) same ∙ is_named_itself cname delta in cc)

kept_in : (b : Bool) (x y : ℕ × ℕ) (rest : List (ℕ × ℕ)) → In x rest → In x (cond b (y ∷ rest) rest)
kept_in true x y rest h = inr h
kept_in false x y rest h = h

goes : (cname : List ℕ) (least : ℤ) (es : Entries) (lane : ℕ) (delta : ℤ) → In (lane, report_of cname delta) es → In (lane, natural (delta -ℤ least)) (offsets_in cname least es)
goes cname least [] lane delta h = absurd h
goes cname least (e ∷ es) lane delta (inl same) = goes_by (is_named cname e.1) least e lane cname delta (offsets_in cname least es) refl same
goes cname least (e ∷ es) lane delta (inr h) = kept_in (is_named cname e.1) (lane, natural (delta -ℤ least)) (e.0, natural (e.1.delta -ℤ least)) (offsets_in cname least es) (goes cname least es lane delta h)

-- ---- the least delta

above_in : (cname : List ℕ) (least : ℤ) (es : Entries) (lane : ℕ) (delta : ℤ) → AreAbove cname least es → In (lane, report_of cname delta) es → least ≤ℤ delta
above_in cname least [] lane delta above h = absurd h
above_in cname least (e ∷ es) lane delta above (inl same) =
    let named : is_named cname e.1 ≡ true = ap (λ (x : ℕ × LaneReport). is_named cname x.1) same ∙ is_named_itself cname delta in
    let le : least ≤ℤ e.1.delta = above.0 named in
    subst (λ (d : ℤ). least ≤ℤ d) (ap (λ (x : ℕ × LaneReport). x.1.delta) same) le
above_in cname least (e ∷ es) lane delta above (inr h) = above_in cname least es lane delta above.1 h

reached_in : (cname : List ℕ) (least : ℤ) (es : Entries) → Reaches cname least es → (lane : ℕ) × In (lane, report_of cname least) es
reached_in cname least [] h = absurd h
reached_in cname least (e ∷ es) (inl h) = (e.0, inl (λ i. (e.0, (named_is cname e.1 h.0 ∙ ap (report_of cname) h.1) i)))
reached_in cname least (e ∷ es) (inr h) = let rest = reached_in cname least es h in (rest.0, inr rest.1)

is_least : (cname : List ℕ) (es : Entries) (least : ℤ) → Rises (keys_of es) → Found cname least es → IsLeast (kept es) cname least
is_least cname es least rises f =
    let there = reached_in cname least es f.reached in
    record {
      some = (there.0, kept_from_in es there.0 (report_of cname least) rises there.1);
      others = λ lane delta has. above_in cname least es lane delta f.above (in_from_kept es lane (report_of cname delta) has);
    }

pub one_least : (last : ℕ → Option LaneReport) (cname : List ℕ) (a b : ℤ) → IsLeast last cname a → IsLeast last cname b → a ≡ b
one_least last cname a b x y =
    let le : a ≤ℤ b = x.others y.some.0 b y.some.1 in
    let ge : b ≤ℤ a = y.others x.some.0 a x.some.1 in
    omega (arith, ints)

apart_is : (least delta : ℤ) → least ≤ℤ delta → least +ℤ pos (natural (delta -ℤ least)) ≡ delta
apart_is least delta le = natural_is least delta (delta -ℤ least) refl le
  where
    natural_is : (least delta z : ℤ) → delta -ℤ least ≡ z → least ≤ℤ delta → least +ℤ pos (natural z) ≡ delta
    natural_is least delta (pos n) e le = omega (arith, ints)
    natural_is least delta (negsuc n) e le = absurd (omega (arith, ints))

back_is : (least : ℤ) (offset : ℕ) → natural ((least +ℤ pos offset) -ℤ least) ≡ offset
back_is least offset = let e : (least +ℤ pos offset) -ℤ least ≡ pos offset = omega (arith, ints) in ap natural e

-- ---- all of it

pub offsets_rising : (cname : List ℕ) (es : Entries) (least : ℤ) → Rises (keys_of es) → least_in cname (values_of es) ≡ Some least → AreOffsets (kept es) cname (offsets_in cname least es)
offsets_rising cname es least rises e =
    let f = found cname es least e in
    let low = is_least cname es least rises f in
    record {
      in_order = increasing_from (map (λ o. o.0) (offsets_in cname least es)) (rises_offsets cname least es rises);
      each = λ lane offset. (
        (λ h.
            let c = comes cname least es lane offset (in_from (offsets_in cname least es) (lane, offset) h) in
            let le : least ≤ℤ c.0 = above_in cname least es lane c.0 f.above c.1 in
            let is : c.0 ≡ least +ℤ pos offset = sym (ap (λ (n : ℕ). least +ℤ pos n) c.2 ∙ apart_is least c.0 le) in
            (least, low, kept_from_in es lane (report_of cname c.0) rises c.1 ∙ ap (λ (d : ℤ). Some (report_of cname d)) is)),
        (λ h.
            let same : h.0 ≡ least = one_least (kept es) cname h.0 least h.1 low in
            let there : kept es lane ≡ Some (report_of cname (least +ℤ pos offset)) = h.2 ∙ ap (λ (d : ℤ). Some (report_of cname (d +ℤ pos offset))) same in
            let put = goes cname least es lane (least +ℤ pos offset) (in_from_kept es lane (report_of cname (least +ℤ pos offset)) there) in
            contains_from (offsets_in cname least es) (lane, offset) (subst (λ (n : ℕ). In (lane, n) (offsets_in cname least es)) (back_is least offset) put)),
      );
    }

pub offsets : (cname : List ℕ) (es : Entries) (least : ℤ) → IsStrictlySortedBy nat_cmp (keys_of es) → least_in cname (values_of es) ≡ Some least → AreOffsets (kept es) cname (offsets_in cname least es)
offsets cname es least sorted e = offsets_rising cname es least (rises_from (keys_of es) sorted) e

not_named : (cname : List ℕ) (es : Entries) (lane : ℕ) (delta : ℤ) → NoneNamed cname es → In (lane, report_of cname delta) es → ⊥
not_named cname [] lane delta none h = h
not_named cname (e ∷ es) lane delta none (inl same) =
    let named : is_named cname e.1 ≡ true = ap (λ (x : ℕ × LaneReport). is_named cname x.1) same ∙ is_named_itself cname delta in
    let both : false ≡ true = sym none.0 ∙ named in
    cc
not_named cname (e ∷ es) lane delta none (inr h) = not_named cname es lane delta none.1 h

pub no_offsets : (cname : List ℕ) (es : Entries) → least_in cname (values_of es) ≡ None → AreOffsets (kept es) cname []
no_offsets cname es e =
    let none = none_named cname es e in
    record {
      in_order = increasing_from [] tt;
      each = λ lane offset. (
        (λ h. absurd (in_from [] (lane, offset) h)),
        (λ h. absurd (not_named cname es lane (h.0 +ℤ pos offset) none (in_from_kept es lane (report_of cname (h.0 +ℤ pos offset)) h.2))),
      );
    }

-- a lane's look-up, by the order of lanes
pub kept_by_order : (es : Entries) (lane : ℕ) → lookup (λ k. is_eq (nat_cmp lane k)) es ≡ kept es lane
kept_by_order es lane = ap (λ (test : ℕ → Bool). lookup test es) (λ i k. unsigned_tied lane k i)

-- ---- the same by calls

pub offsets_by_calls : (cname : List ℕ) (es : Entries) (value : List (ℕ × LaneReport)) (least : ℤ) (calls : List Call) (found : List (ℕ × ℕ)) → IsStrictlySortedBy nat_cmp (keys_of es)
    → least_in cname (values_of es) ≡ Some least → es ≡ value → StandsFor value calls → found ≡ offsets_in cname least es → AreOffsets (last_report calls) cname found
offsets_by_calls cname es value least calls found sorted e same stands is =
    subst (λ (xs : List (ℕ × ℕ)). AreOffsets (last_report calls) cname xs) (sym is)
    (subst (λ (f : ℕ → Option LaneReport). AreOffsets f cname (offsets_in cname least es)) (λ i lane. (ap (λ (xs : Entries). kept xs lane) same ∙ stands lane) i) (offsets cname es least sorted e))

pub none_by_calls : (cname : List ℕ) (es : Entries) (value : List (ℕ × LaneReport)) (calls : List Call) (found : List (ℕ × ℕ)) → least_in cname (values_of es) ≡ None → es ≡ value → StandsFor value calls
    → found ≡ [] → AreOffsets (last_report calls) cname found
none_by_calls cname es value calls found e same stands is =
    subst (λ (xs : List (ℕ × ℕ)). AreOffsets (last_report calls) cname xs) (sym is)
    (subst (λ (f : ℕ → Option LaneReport). AreOffsets f cname []) (λ i lane. (ap (λ (xs : Entries). kept xs lane) same ∙ stands lane) i) (no_offsets cname es e))

pub above_all : (cname : List ℕ) (es : Entries) (least same : ℤ) → least_in cname (values_of es) ≡ Some least → same ≡ least → AreAbove cname same es
above_all cname es least same e is = subst (λ (z : ℤ). AreAbove cname z es) (sym is) (found cname es least e).above

-- a report more
pub reports_next : (old new value : Entries) (calls : List Call) (call : Call) (cname : List ℕ) (delta : ℤ) → old ≡ value → StandsFor value calls → cname ≡ call.cname → delta ≡ delta_of call.info
    → ((q : ℕ) → lookup (λ k. is_eq (nat_cmp q k)) new ≡ cond (is_eq (nat_cmp call.lane q)) (Some (report_of cname delta)) (lookup (λ k. is_eq (nat_cmp q k)) old)) → StandsFor new (call ∷ calls)
reports_next old new value calls call cname delta same stands name far put = λ lane.
    sym (kept_by_order new lane) ∙ put lane ∙ (λ i. cond (unsigned_tied call.lane lane i) (Some (report_of (name i) (far i))) ((kept_by_order old lane ∙ ap (λ (xs : Entries). kept xs lane) same ∙ stands lane) i))

-- an offset more
pub offset_next : (cname : List ℕ) (least : ℤ) (done found : List (ℕ × ℕ)) (s t : Entries) (lane : ℕ) (r : LaneReport) (offset : ℕ) → s ≡ (lane, r) ∷ t → is_named cname r ≡ true
    → offset ≡ natural (r.delta -ℤ least) → done ++ offsets_in cname least s ≡ found → (done ++ (lane, offset) ∷ []) ++ offsets_in cname least t ≡ found
offset_next cname least done found s t lane r offset e named is rest =
    append_assoc done ((lane, offset) ∷ []) (offsets_in cname least t) ∙ ap (λ (n : ℕ). done ++ (lane, n) ∷ offsets_in cname least t) is
    ∙ sym (ap (λ (b : Bool). done ++ cond b ((lane, natural (r.delta -ℤ least)) ∷ offsets_in cname least t) (offsets_in cname least t)) named)
    ∙ ap (λ (xs : Entries). done ++ offsets_in cname least xs) (sym e) ∙ rest

pub above_next : (cname : List ℕ) (least : ℤ) (s t : Entries) (e : ℕ × LaneReport) → s ≡ e ∷ t → AreAbove cname least s → AreAbove cname least t
above_next cname least s t e is h = (subst (λ (xs : Entries). AreAbove cname least xs) is h).1
