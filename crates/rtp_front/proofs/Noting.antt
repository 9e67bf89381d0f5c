-- What maps and sets of a script's lines hold, with one line more.
use Rattle.std.proofs.Common.{◌≡◌, ◌||◌, ◌&&◌, ℕ, Bool, true, false, cond, nat_eq, List, [], ◌∷◌}
use Rattle.std.proofs.Common.{◌++◌, Option, Some, None, refl, sym, ap, ◌∙◌, arith, eqb-true}
use Rattle.std.specs.Prelude.{find, is_some}
use Rattle.std.specs.List.{list_any, filter_map, cons_option}
use Rattle.std.proofs.lemmas.List.{append-nil}
use Rattle.std.specs.Map.{lookup}
use Rattle.std.specs.Option.{option_or}
use Rattle.std.proofs.lemmas.Bool.Decides.{nat_tests}
use Rattle.std.proofs.lemmas.List.Elements.{filter_map-append}
use Rattle.std.proofs.lemmas.List.Folds.{find-append, list_any-append}
use Rattle.rtp_units.specs.declared.shared.RtxLine.{RtxLine}
use Rattle.script_lang.specs.declared.script.SessionLine.{SessionLine}
use Rattle.script_lang.specs.declared.script.PtLine.{PtLine}
use Rattle.rtp_demux.specs.Types.{rate_of}
use Rattle.rtx.specs.Pairs.{carries}
use Rattle.front_model.specs.Records.{is_to}
use Rattle.front_model.specs.Types.{rate_in}
use Rattle.rtp_front.specs.Chosen.{is_type}

or_none : {X : Type 0} (o : Option X) → option_or o None ≡ o
or_none None = refl
or_none (Some x) = refl

pub none_kept : {X : Type 0} (o : Option X) → is_some o ≡ false → o ≡ None
none_kept None e = refl
none_kept (Some x) e = absurd cc

new_by : {X : Type 0} (b : Bool) (v : X) (o : Option X) → (b ≡ true → o ≡ None)
    → cond b (Some v) o ≡ option_or o (cond b (Some v) None)
new_by true v o h = sym (ap (λ x. option_or x (Some v)) (h refl))
new_by false v o h = sym (or_none o)

both : (x y : Bool) → (x && y) ≡ true → (x ≡ true) × (y ≡ true)
both true true e = (refl, refl)
both true false e = absurd cc
both false y e = absurd cc

turned : (a b : ℕ) → nat_eq a b ≡ nat_eq b a
turned a b = grind (arith, nat_tests)

different_by : (a b : ℕ) → (a ≡ b → ⊥) → (t : Bool) → nat_eq a b ≡ t → nat_eq a b ≡ false
different_by a b h true e = absurd (h (eqb-true a b e))
different_by a b h false e = e

pub different : (a b : ℕ) → (a ≡ b → ⊥) → nat_eq a b ≡ false
different a b h = different_by a b h (nat_eq a b) refl

-- a type with its rate, where it had none
pub type_noted : (old new : List ((ℕ × ℕ) × ℕ)) (session pt rate s p : ℕ)
    → is_some (lookup (is_type (session, pt)) old) ≡ false
    → lookup (is_type (s, p)) new
    ≡ cond (is_type (session, pt) (s, p)) (Some rate) (lookup (is_type (s, p)) old)
    → lookup (is_type (s, p)) new
    ≡ option_or (lookup (is_type (s, p)) old)
    (cond (is_type (session, pt) (s, p)) (Some rate) None)
type_noted old new session pt rate s p absent put =
    put
    ∙ new_by (is_type (session, pt) (s, p)) rate (lookup (is_type (s, p)) old)
    (λ same.
    let e = both (nat_eq session s) (nat_eq pt p) same in
    ap (λ x. lookup (is_type (x, p)) old) (sym (eqb-true session s e.0))
    ∙ ap (λ x. lookup (is_type (session, x)) old) (sym (eqb-true pt p e.1))
    ∙ none_kept (lookup (is_type (session, pt)) old) absent)

-- ---- ports

twice_by : {X : Type 0} (a b : Bool) (o : Option X) (x : X)
    → option_or (option_or o (cond a (Some x) None)) (cond b (Some x) None)
    ≡ option_or o (cond (a || b) (Some x) None)
twice_by true true None x = refl
twice_by true false None x = refl
twice_by false true None x = refl
twice_by false false None x = refl
twice_by true b (Some y) x = refl
twice_by false b (Some y) x = refl

-- one line more, with its two ports
pub ports_more : (lines : List SessionLine) (l : SessionLine) (q : ℕ) (old mid new : Option SessionLine)
    → old ≡ find (is_to q) lines
    → mid ≡ option_or old (cond (nat_eq l.rtp q) (Some l) None)
    → new ≡ option_or mid (cond (nat_eq l.rtcp q) (Some l) None)
    → new ≡ find (is_to q) (lines ++ l ∷ [])
ports_more lines l q old mid new before first second =
    second
    ∙ ap (λ o. option_or o (cond (nat_eq l.rtcp q) (Some l) None)) first
    ∙ twice_by (nat_eq l.rtp q) (nat_eq l.rtcp q) old l
    ∙ ap (λ o. option_or o (cond (is_to q l) (Some l) None)) before
    ∙ sym (find-append (is_to q) lines (l ∷ []))

-- ---- rates

lookup_by : (b : Bool) (v : ℕ) (rest all more : Option ℕ) → all ≡ option_or rest more
    → cond b (Some v) all ≡ option_or (cond b (Some v) rest) more
lookup_by true v rest all more e = refl
lookup_by false v rest all more e = e

lookup-append : (q : ℕ) (xs ys : List (ℕ × ℕ))
    → rate_of (xs ++ ys) q ≡ option_or (rate_of xs q) (rate_of ys q)
lookup-append q [] ys = refl
lookup-append q (x ∷ xs) ys =
    lookup_by (nat_eq q x.0) x.1 (rate_of xs q) (rate_of (xs ++ ys) q) (rate_of ys q)
    (lookup-append q xs ys)

one_by : (b : Bool) (l : PtLine) (q : ℕ)
    → rate_of (filter_map (λ (x : PtLine). cond b (Some (x.pt, x.rate)) None) (l ∷ [])) q
    ≡ cond (b && nat_eq l.pt q) (Some l.rate) None
one_by true l q = ap (λ (x : Bool). cond x (Some l.rate) None) (turned q l.pt)
one_by false l q = refl

pub rates_more : (lines : List PtLine) (l : PtLine) (s q : ℕ) (old new : Option ℕ)
    → old ≡ rate_of (filter_map (rate_in s) lines) q
    → new ≡ option_or old (cond (is_type (l.session, l.pt) (s, q)) (Some l.rate) None)
    → new ≡ rate_of (filter_map (rate_in s) (lines ++ l ∷ [])) q
rates_more lines l s q old new before put =
    put
    ∙ ap (λ o. option_or o (cond (is_type (l.session, l.pt) (s, q)) (Some l.rate) None)) before
    ∙ ap (λ o. option_or (rate_of (filter_map (rate_in s) lines) q) o)
    (sym (one_by (nat_eq l.session s) l q))
    ∙ sym (lookup-append q (filter_map (rate_in s) lines) (filter_map (rate_in s) (l ∷ [])))
    ∙ ap (λ (ls : List (ℕ × ℕ)). rate_of ls q) (sym (filter_map-append (rate_in s) lines (l ∷ [])))

pub rates_noted : (lines : List PtLine) (l : PtLine) (s : ℕ) (b : Bool) (old new : List (ℕ × ℕ))
    → nat_eq l.session s ≡ b → old ≡ filter_map (rate_in s) lines
    → new ≡ cond b (old ++ (l.pt, l.rate) ∷ []) old
    → new ≡ filter_map (rate_in s) (lines ++ l ∷ [])
rates_noted lines l s b old new e before put =
    put
    ∙ one_noted b (l.pt, l.rate) old
    ∙ ap (λ (xs : List (ℕ × ℕ)). xs ++ cons_option (cond b (Some (l.pt, l.rate)) None) []) before
    ∙ ap (λ (x : Bool). filter_map (rate_in s) lines
    ++ cons_option (cond x (Some (l.pt, l.rate)) None) []) (sym e)
    ∙ sym (filter_map-append (rate_in s) lines (l ∷ []))
  where
    one_noted : (x : Bool) (v : ℕ × ℕ) (xs : List (ℕ × ℕ))
        → cond x (xs ++ v ∷ []) xs ≡ xs ++ cons_option (cond x (Some v) None) []
    one_noted true v xs = refl
    one_noted false v xs = sym (append-nil xs)

-- ---- retransmissions

or_turned : (a b c : Bool) → a ≡ c → cond b true a ≡ (c || (b || false))
or_turned true true true e = refl
or_turned true false true e = refl
or_turned false true false e = refl
or_turned false false false e = refl
or_turned true b false e = absurd cc
or_turned false b true e = absurd cc

pub types_more : (lines : List RtxLine) (l : RtxLine) (s q : ℕ) (old new : Bool)
    → old ≡ list_any (carries s q) lines
    → new ≡ cond (is_type (l.session, l.pt) (s, q)) true old
    → new ≡ list_any (carries s q) (lines ++ l ∷ [])
types_more lines l s q old new before put =
    put
    ∙ or_turned old (carries s q l) (list_any (carries s q) lines) before
    ∙ sym (list_any-append (carries s q) lines (l ∷ []))
