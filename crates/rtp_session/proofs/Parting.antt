-- Blocks, 31 to a packet.
use Rattle.std.proofs.Common.{◌≡◌, ◌≤◌, ◌<◌, ◌%◌, ℕ, zero, suc, ◌+◌, ◌-◌, ◌*◌, Bool, true, false, cond, List, [], ◌∷◌, ◌++◌, length, take, drop, map, refl, sym, ap, ◌∙◌, subst, arith, lit<, lit≤}
use Rattle.std.specs.Prelude.{nat_lt}
use Rattle.std.specs.List.{AllByRecursion}
use Rattle.std.proofs.lemmas.Bool.Decides.{nat_tests}
use Rattle.std.proofs.lemmas.List.{length-drop, length-append, take_all, append_assoc}
use Rattle.rtcp_wire.specs.declared.block.ReportBlock.{ReportBlock}
use Rattle.rtcp_wire.specs.declared.packet.Rtcp.{Rtcp}
use Rattle.rtcp_wire.specs.declared.packet.Rtcp.TheVariants.{Rr, Nacks}
use Rattle.rtcp_wire.specs.declared.packet.Nack.{Nack}
use Rattle.rtcp_wire.specs.Laws.{length-blocks, length-numbers_bytes, length-entries}
use Rattle.rtcp_wire.specs.Written.{LossFits, PacketFits, Begins, IsWritable}
use Rattle.front_model.specs.Reports.{parts_up_to, parts, receiver_report, own_description}
use Rattle.rtp_session.proofs.Each.{each_joined}

abbrev behind : Bool → List (List ReportBlock) → List (List ReportBlock)
behind b rest = cond b rest []

no_more : (b : Bool) (n : ℕ) (xs : List (List ReportBlock)) → nat_lt 31 n ≡ b → n ≤ 31 → behind b xs ≡ []
no_more true n xs e le = absurd (grind (arith, nat_tests))
no_more false n xs e le = refl

some_more : (b : Bool) (n : ℕ) (xs : List (List ReportBlock)) → nat_lt 31 n ≡ b → 31 < n → behind b xs ≡ xs
some_more true n xs e lt = refl
some_more false n xs e lt = absurd (grind (arith, nat_tests))

same_by : (b : Bool) (n : ℕ) (xs ys : List (List ReportBlock)) → nat_lt 31 n ≡ b → (31 < n → xs ≡ ys) → behind b xs ≡ behind b ys
same_by true n xs ys e h = h (grind (arith, nat_tests))
same_by false n xs ys e h = refl

-- any number that serves gives the same packets
same_parts : (n m : ℕ) (bs : List ReportBlock) → length bs ≤ n → length bs ≤ m → parts_up_to n bs ≡ parts_up_to m bs
same_parts zero zero bs h k = refl
same_parts zero (suc m) bs h k = ap (λ (l : List (List ReportBlock)). take 31 bs ∷ l) (sym (no_more (nat_lt 31 (length bs)) (length bs) (parts_up_to m (drop 31 bs)) refl (omega arith)))
same_parts (suc n) zero bs h k = ap (λ (l : List (List ReportBlock)). take 31 bs ∷ l) (no_more (nat_lt 31 (length bs)) (length bs) (parts_up_to n (drop 31 bs)) refl (omega arith))
same_parts (suc n) (suc m) bs h k =
    ap (λ (l : List (List ReportBlock)). take 31 bs ∷ l)
    (same_by (nat_lt 31 (length bs)) (length bs) (parts_up_to n (drop 31 bs)) (parts_up_to m (drop 31 bs)) refl
    (λ lt. same_parts n m (drop 31 bs) (omega (arith, length-drop 31 bs)) (omega (arith, length-drop 31 bs))))

opened : (bs : List ReportBlock) → parts bs ≡ take 31 bs ∷ behind (nat_lt 31 (length bs)) (parts_up_to (length bs) (drop 31 bs))
opened bs = same_parts (length bs) (suc (length bs)) bs (omega arith) (omega arith)

pub last_part : (bs : List ReportBlock) → length bs ≤ 31 → parts bs ≡ bs ∷ []
last_part bs le =
    opened bs
    ∙ (λ i. take_all 31 bs le i ∷ no_more (nat_lt 31 (length bs)) (length bs) (parts_up_to (length bs) (drop 31 bs)) refl le i)

pub full_part : (bs : List ReportBlock) → 31 < length bs → parts bs ≡ take 31 bs ∷ parts (drop 31 bs)
full_part bs lt =
    opened bs
    ∙ ap (λ (l : List (List ReportBlock)). take 31 bs ∷ l)
    (some_more (nat_lt 31 (length bs)) (length bs) (parts_up_to (length bs) (drop 31 bs)) refl lt
    ∙ same_parts (length bs) (length (drop 31 bs)) (drop 31 bs) (omega (arith, length-drop 31 bs)) (omega arith))

-- a packet that is written, of those that are still to be written
pub one_written : (own : ℕ) (done all new : List Rtcp) (bs part rest : List ReportBlock) (p : Rtcp) → 31 < length bs → part ≡ take 31 bs → rest ≡ drop 31 bs → p ≡ receiver_report own part → new ≡ done ++ p ∷ []
    → done ++ map (receiver_report own) (parts bs) ≡ all → new ++ map (receiver_report own) (parts rest) ≡ all
one_written own done all new bs part rest p lt front back is pushed e =
    (λ i. (pushed ∙ ap (λ (x : Rtcp). done ++ x ∷ []) (is ∙ ap (receiver_report own) front)) i ++ map (receiver_report own) (parts (back i)))
    ∙ append_assoc done (receiver_report own (take 31 bs) ∷ []) (map (receiver_report own) (parts (drop 31 bs)))
    ∙ ap (λ (ps : List (List ReportBlock)). done ++ map (receiver_report own) ps) (sym (full_part bs lt))
    ∙ e

pub all_written : (own : ℕ) (done all new : List Rtcp) (bs : List ReportBlock) (p : Rtcp) → length bs ≤ 31 → p ≡ receiver_report own bs → new ≡ done ++ p ∷ [] → done ++ map (receiver_report own) (parts bs) ≡ all → new ≡ all
all_written own done all new bs p le is pushed e =
    pushed
    ∙ ap (λ (x : Rtcp). done ++ x ∷ []) is
    ∙ ap (λ (ps : List (List ReportBlock)). done ++ map (receiver_report own) ps) (sym (last_part bs le))
    ∙ e

-- ---- what is written can be written

pub report_fits : (own : ℕ) (xs bs : List ReportBlock) (rest : List ℕ) → xs ≡ bs → rest ≡ [] → length bs ≤ 31 → AllByRecursion LossFits bs → PacketFits (Rr own (record { items = xs }) rest)
report_fits own xs bs rest e none few fits =
    subst (λ (l : List ReportBlock). PacketFits (Rr own (record { items = l }) rest)) (sym e)
    (subst (λ (r : List ℕ). PacketFits (Rr own (record { items = bs }) r)) (sym none)
    (record {
      body = (fits, refl);
      words = simp length-append (omega (arith, length-blocks bs, length-numbers_bytes (own ∷ [])));
    }))

pub nacks_fit : (own media : ℕ) (list : List Nack) → length list ≤ 8192 → IsWritable (Nacks own media list ∷ [])
nacks_fit own media list few = record {
  begins = (lit≤ tt, lit≤ tt);
  each = (
    record {
      body = tt;
      words = simp length-append (omega (arith, length-entries list, length-numbers_bytes (own ∷ media ∷ [])));
    },
    tt,
  );
}

description_fits : (own : ℕ) → PacketFits (own_description own)
description_fits own = record {
  body = (lit≤ tt, ((((lit< tt, lit≤ tt), tt), tt)));
  words = lit≤ tt;
}

begins : (own : ℕ) (bs : List ReportBlock) (ps : List (List ReportBlock)) → Begins (map (receiver_report own) (bs ∷ ps) ++ own_description own ∷ [])
begins own bs ps = (lit≤ tt, lit≤ tt)

pub reports_fit : (own : ℕ) (bs : List ReportBlock) (ps all : List Rtcp) (p : Rtcp) → p ≡ own_description own → all ≡ ps ++ p ∷ [] → ps ≡ map (receiver_report own) (parts bs) → AllByRecursion PacketFits ps → IsWritable all
reports_fit own bs ps all p is e which fits = record {
  begins =
      subst Begins
      (sym (e ∙ (λ i. which i ++ is i ∷ []) ∙ ap (λ (l : List (List ReportBlock)). map (receiver_report own) l ++ own_description own ∷ []) (opened bs)))
      (begins own (take 31 bs) (behind (nat_lt 31 (length bs)) (parts_up_to (length bs) (drop 31 bs))));
  each =
      subst (λ (l : List Rtcp). AllByRecursion PacketFits l) (sym (e ∙ ap (λ (x : Rtcp). ps ++ x ∷ []) is))
      (each_joined PacketFits ps (own_description own ∷ []) fits (description_fits own, tt));
}
