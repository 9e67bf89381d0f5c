-- The payload types of a section, and what holds of them where they have no fault.
use Rattle.std.proofs.Common.{◌≡◌, ℕ, List, [], ◌∷◌, ◌++◌, Bool, true, false, ◌&&◌, ◌||◌, not, Option, Some, None, fold, sym, ◌∙◌, ap, refl, nat_eq, nat_le, nat_lt}
use Rattle.std.specs.Prelude.{is_some, if◌then◌else◌, option_map, unwrap_or}
use Rattle.std.specs.Option.{option_or}
use Rattle.std.specs.List.{list_all, filter_map}
use Rattle.std.proofs.lemmas.Option.{none-some}
use Rattle.sdp_profile.specs.declared.attribute.Attribute.{Attribute}
use Rattle.sdp_profile.specs.declared.attribute.Attribute.TheVariants as attribute
use Rattle.sdp_profile.specs.declared.attribute.Placed.{Placed}
use Rattle.sdp_profile.specs.declared.format.Mapping.{Mapping}
use Rattle.sdp_profile.specs.declared.format.Format.{Format}
use Rattle.sdp_profile.specs.declared.fault.Fault.{Fault}
use Rattle.sdp_profile.specs.Text.{first_of}
use Rattle.sdp_profile.specs.Causes.{sooner}
use Rattle.sdp_profile.specs.Numbers.{type_in}
use Rattle.sdp_profile.specs.Media.{holds, with_type, types_of}
use Rattle.sdp_profile.specs.Formats.{mapping_in, as_mapping, mapping_of, apt_in, as_apt, apt_of, static_rate, mapped, format_in, knows_original, fault_of_format, fault_of_formats}
use Rattle.sdp_profile.proofs.ListLemmas.{both_true, true_both, is_not, all_both, all_given, all_true, each_behind-append, is_new_type}
use Rattle.sdp_profile.proofs.FitsLemmas.{rate_fits, type_fits, attribute_fits, placed_fits, type_in_fits}
use Rattle.script_lang.specs.Contents.{each_behind}

-- ---- payload types in order, each once

abbrev pub is_small : ℕ → Bool
is_small pt = nat_le pt 127

-- Payload types stand once, and are in their range.
pub record AreTypes (types : List ℕ) : Type 0 where
  pub distinct : each_behind is_new_type [] types ≡ true
  pub small : list_all is_small types ≡ true

one_type : (types : List ℕ) (pt : ℕ) (b : Bool) → holds types pt ≡ b → AreTypes types → is_small pt ≡ true → AreTypes (if b then types else types ++ pt ∷ [])
one_type types pt true e h small = h
one_type types pt false e h small = record {
  distinct = each_behind-append is_new_type [] types (pt ∷ []) h.distinct (true_both (is_new_type types pt) true (is_not (holds types pt) e) refl);
  small = all_both is_small types (pt ∷ []) h.small (true_both (is_small pt) true small refl);
}

all_types : (types more : List ℕ) → AreTypes types → list_all is_small more ≡ true → AreTypes (fold with_type types more)
all_types types [] h small = h
all_types types (pt ∷ more) h small =
    let e = both_true (is_small pt) (list_all is_small more) small in
    all_types (with_type types pt) more (one_type types pt (holds types pt) refl h e.0) e.1

same_types : (b : Bool) (xs types : List ℕ) → (if b then Some xs else None) ≡ Some types → xs ≡ types
same_types true xs types e = cc
same_types false xs types e = absurd (cc)

one_small : (word : List ℕ) (pt : ℕ) → type_in word ≡ Some pt → is_small pt ≡ true
one_small word pt e = type_in_fits (Some pt) word e

pub are_types : (words : List (List ℕ)) (types : List ℕ) → types_of words ≡ Some types → AreTypes types
unfolding types_of
are_types words types e =
    let is : fold with_type [] (filter_map type_in words) ≡ types = same_types (list_all (λ word. is_some (type_in word)) words) _ types e in
    let none : AreTypes [] = record { distinct = refl; small = refl } in
    let all : AreTypes (fold with_type [] (filter_map type_in words)) = all_types [] (filter_map type_in words) none
    (all_given (λ _. true) is_small type_in (λ word pt _ given. one_small word pt given) words (all_true words)) in
    record { distinct = sym (ap (each_behind is_new_type []) is) ∙ all.distinct; small = sym (ap (list_all is_small) is) ∙ all.small }

-- ---- what the lines say

or_given : {B : Type 0} (q : B → Bool) (o rest : Option B) (y : B) → ((z : B) → o ≡ Some z → q z ≡ true) → ((z : B) → rest ≡ Some z → q z ≡ true) → option_or o rest ≡ Some y → q y ≡ true
or_given q None rest y here there e = there y e
or_given q (Some x) rest y here there e = here y e

first_given : {A B : Type 0} (p : A → Bool) (q : B → Bool) (kind : A → Option B) → ((x : A) (y : B) → p x ≡ true → kind x ≡ Some y → q y ≡ true)
    → (xs : List A) → list_all p xs ≡ true → (y : B) → first_of kind xs ≡ Some y → q y ≡ true
first_given p q kind each [] h y e = absurd (none-some y e)
first_given p q kind each (x ∷ xs) h y e =
    let d = both_true (p x) (list_all p xs) h in
    or_given q (kind x) (first_of kind xs) y (λ z is. each x z d.0 is) (first_given p q kind each xs d.1) e

given_where : {A : Type 0} (b : Bool) (x y : A) → (if b then Some x else None) ≡ Some y → x ≡ y
given_where true x y e = cc
given_where false x y e = absurd (cc)

mapping_fits : (pt line : ℕ) (a : Attribute) (m : Mapping) → attribute_fits a ≡ true → mapping_in pt line a ≡ Some m → rate_fits m.rate ≡ true
mapping_fits pt line attribute.Mux m h e = absurd (cc)
mapping_fits pt line (attribute.Rtcp port) m h e = absurd (cc)
mapping_fits pt line (attribute.Map type is_rtx rate) m h e = sym (ap (λ (x : Mapping). rate_fits x.rate) (given_where (nat_eq type pt) (record { line = line; is_rtx = is_rtx; rate = rate }) m e)) ∙ h
mapping_fits pt line (attribute.Apt type apt) m h e = absurd (cc)
mapping_fits pt line (attribute.Pair ssrc rtx_ssrc) m h e = absurd (cc)
mapping_fits pt line attribute.BadPair m h e = absurd (cc)
mapping_fits pt line attribute.Other m h e = absurd (cc)
mapping_fits pt line attribute.Malformed m h e = absurd (cc)

apt_fits : (pt : ℕ) (a : Attribute) (apt : Option ℕ) → attribute_fits a ≡ true → apt_in pt a ≡ Some apt → type_fits apt ≡ true
apt_fits pt attribute.Mux apt h e = absurd (cc)
apt_fits pt (attribute.Rtcp port) apt h e = absurd (cc)
apt_fits pt (attribute.Map type is_rtx rate) apt h e = absurd (cc)
apt_fits pt (attribute.Apt type said) apt h e = sym (ap type_fits (given_where (nat_eq type pt) said apt e)) ∙ h
apt_fits pt (attribute.Pair ssrc rtx_ssrc) apt h e = absurd (cc)
apt_fits pt attribute.BadPair apt h e = absurd (cc)
apt_fits pt attribute.Other apt h e = absurd (cc)
apt_fits pt attribute.Malformed apt h e = absurd (cc)

unwrapped_fits : (o : Option (Option ℕ)) → ((apt : Option ℕ) → o ≡ Some apt → type_fits apt ≡ true) → type_fits (unwrap_or o None) ≡ true
unwrapped_fits None h = refl
unwrapped_fits (Some apt) h = h apt refl

-- the values of a format are in their ranges
abbrev pub format_fits : Format → Bool
format_fits f = rate_fits f.rate && type_fits f.apt

static_fits : (pt : ℕ) → rate_fits (static_rate pt) ≡ true
static_fits pt = at
    (nat_eq pt 0 || nat_eq pt 3 || nat_eq pt 8 || nat_eq pt 9)
    (nat_eq pt 14 || nat_eq pt 26 || nat_eq pt 31 || nat_eq pt 32 || nat_eq pt 33 || nat_eq pt 34)
  where
    at : (a b : Bool) → rate_fits (if a then Some 8000 else if b then Some 90000 else None) ≡ true
    at true b = refl
    at false true = refl
    at false false = refl

static_format : (pt : ℕ) (o : Option ℕ) (f : Format) → rate_fits o ≡ true → option_map (λ rate. record { line = 0; pt = pt; rate = Some rate; is_rtx = false; apt = None }) o ≡ Some f
    → (f.pt ≡ pt) × (format_fits f ≡ true)
static_format pt None f h e = absurd (none-some f e)
static_format pt (Some rate) f h e =
    let is : ◌≡◌ {A = Format} (record { line = 0; pt = pt; rate = Some rate; is_rtx = false; apt = None }) f = cc in
    (sym (ap (λ (x : Format). x.pt) is), sym (ap format_fits is) ∙ true_both (rate_fits (Some rate)) true h refl)

mapped_format : (lines : List Placed) (pt : ℕ) (o : Option Mapping) (f : Format) → list_all placed_fits lines ≡ true → ((m : Mapping) → o ≡ Some m → rate_fits m.rate ≡ true)
    → mapped lines pt o ≡ Some f → (f.pt ≡ pt) × (format_fits f ≡ true)
mapped_format lines pt None f fit h e = static_format pt (static_rate pt) f (static_fits pt) e
mapped_format lines pt (Some m) f fit h e =
    let is : ◌≡◌ {A = Format} (record { line = m.line; pt = pt; rate = m.rate; is_rtx = m.is_rtx; apt = apt_of lines pt }) f = cc in
    let apt : type_fits (apt_of lines pt) ≡ true = unwrapped_fits (first_of (as_apt pt) lines) (first_given placed_fits type_fits (as_apt pt) (λ l apt p given. apt_fits pt l.attribute apt p given) lines fit) in
    (sym (ap (λ (x : Format). x.pt) is), sym (ap format_fits is) ∙ true_both (rate_fits m.rate) _ (h m refl) apt)

-- a format has its payload type, and values in their ranges
pub format_given : (lines : List Placed) (pt : ℕ) (f : Format) → list_all placed_fits lines ≡ true → format_in lines pt ≡ Some f → (f.pt ≡ pt) × (format_fits f ≡ true)
format_given lines pt f fit e =
    mapped_format lines pt (mapping_of lines pt) f fit
    (first_given placed_fits (λ (m : Mapping). rate_fits m.rate) (as_mapping pt) (λ l m p given. mapping_fits pt l.line l.attribute m p given) lines fit) e

-- ---- formats without a fault

sooner_none : (a b : Option Fault) → sooner a b ≡ None → (a ≡ None) × (b ≡ None)
sooner_none None b e = (refl, e)
sooner_none (Some a) None e = absurd (cc)
sooner_none (Some a) (Some b) e = absurd (some_of (nat_lt b.line a.line) b a e)
  where
    some_of : (t : Bool) (x y : Fault) → (if t then Some x else Some y) ≡ None → ⊥
    some_of true x y h = none-some x (sym h)
    some_of false x y h = none-some y (sym h)

pub all_none : (a b c d : Option Fault) → sooner (sooner (sooner a b) c) d ≡ None → (a ≡ None) × (b ≡ None) × (c ≡ None) × (d ≡ None)
all_none a b c d e =
    let last = sooner_none (sooner (sooner a b) c) d e in
    let third = sooner_none (sooner a b) c last.0 in
    let both = sooner_none a b third.0 in
    (both.0, both.1, third.1, last.1)

-- a rate, and where it is for retransmissions a known original type
abbrev pub format_passes : List Format → Format → Bool
format_passes formats f = is_some f.rate && (not f.is_rtx || knows_original formats f.apt)

passes_of : (a b c : Bool) (x y : Fault) → (if not a then Some x else if b && not c then Some y else None) ≡ None → (a && (not b || c)) ≡ true
passes_of false b c x y e = absurd (cc)
passes_of true false c x y e = refl
passes_of true true true x y e = refl
passes_of true true false x y e = absurd (cc)

folded_none : (formats fs : List Format) (a : Option Fault) → fold (λ fault f. sooner fault (fault_of_format formats f)) a fs ≡ None → (a ≡ None) × (list_all (format_passes formats) fs ≡ true)
folded_none formats [] a e = (e, refl)
folded_none formats (f ∷ fs) a e =
    let rest = folded_none formats fs (sooner a (fault_of_format formats f)) e in
    let here = sooner_none a (fault_of_format formats f) rest.0 in
    (here.0, true_both (format_passes formats f) _ (passes_of (is_some f.rate) f.is_rtx (knows_original formats f.apt) _ _ here.1) rest.1)

pub formats_pass : (formats : List Format) → fault_of_formats formats ≡ None → list_all (format_passes formats) formats ≡ true
formats_pass formats e = (folded_none formats formats None e).1
