-- The relations of a table leave one answer.
use Rattle.std.proofs.Common.{ℕ, ◌+◌, ◌≡◌, refl, sym, ap, subst, ◌∙◌, Bool, true, false, List, [], ◌∷◌, Option, None, Some, eqb-true, eq-eqb}
use Rattle.std.specs.Prelude.{if◌then◌else◌, ◌&&◌, nat_eq, nat_lt, bytes_eq, length, Result, Ok, Err}
use Rattle.std.proofs.lemmas.Bool.{ne_eqb, lt-ltb, le-ltb, and_from, and_parts, false≢true}
use Rattle.rtp_units.specs.declared.shared.Address.{Address}
use Rattle.source_table.specs.declared.source.Source.{Source}
use Rattle.source_table.specs.declared.source.Packet.{Packet}
use Rattle.source_table.specs.declared.source.Heard.{Heard}
use Rattle.source_table.specs.declared.answers.Refuse.{Refuse}
use Rattle.source_table.specs.declared.answers.Refuse.TheVariants.{Own, LimitSources, Collision, OutOfMemory}
use Rattle.source_table.specs.declared.answers.Named.{Named}
use Rattle.source_table.specs.declared.answers.Named.TheVariants.{Unknown, Same, Changed}
use Rattle.source_table.specs.Sources.{fresh, hear_answer, hear_next}
use Rattle.source_table.specs.Table.{Table, kept, name_of, with_source, Takes, Hears, Names}
use Rattle.source_table.specs.Answers.{source_or, is_address, is_name, heard, heard_by, heard_next_by, named, named_by, name_next_by, IsAnswer, IsOneHearing, IsOneNaming}

yes : {X : Type 0} (b : Bool) (x y : X) → b ≡ true → (if b then x else y) ≡ x
yes b x y e = rw e refl

no : {X : Type 0} (b : Bool) (x y : X) → b ≡ false → (if b then x else y) ≡ y
no b x y e = rw e refl

same_bytes : (xs : List ℕ) → bytes_eq xs xs ≡ true
same_bytes [] = refl
same_bytes (x ∷ xs) = and_from (nat_eq x x) (bytes_eq xs xs) (eq-eqb x x refl) (same_bytes xs)

same_ip : (xs ys : List ℕ) → bytes_eq xs ys ≡ true → xs ≡ ys
same_ip [] [] e = refl
same_ip [] (y ∷ ys) e = absurd (false≢true e)
same_ip (x ∷ xs) [] e = absurd (false≢true e)
same_ip (x ∷ xs) (y ∷ ys) e =
    let parts = and_parts (nat_eq x y) (bytes_eq xs ys) e in
    ap (λ (z : ℕ). z ∷ xs) (eqb-true x y parts.0) ∙ ap (λ (l : List ℕ). y ∷ l) (same_ip xs ys parts.1)

abbrev address : ℕ → List ℕ → ℕ → Address
address family ip port = record { family = family; ip = ip; port = port }

address_is : (a b : Address) → is_address a b ≡ true → a ≡ b
address_is a b e =
    let last = and_parts (nat_eq a.family b.family && bytes_eq a.ip b.ip) (nat_eq a.port b.port) e in
    let front = and_parts (nat_eq a.family b.family) (bytes_eq a.ip b.ip) last.0 in
    ap (λ (x : ℕ). address x a.ip a.port) (eqb-true a.family b.family front.0)
    ∙ ap (λ (x : List ℕ). address b.family x a.port) (same_ip a.ip b.ip front.1)
    ∙ ap (λ (x : ℕ). address b.family b.ip x) (eqb-true a.port b.port last.1)

by_test : (a b : Address) (t : Bool) → is_address a b ≡ t → (a ≡ b → ⊥) → t ≡ false
by_test a b true e n = absurd (n (address_is a b e))
by_test a b false e n = refl

not_address : (a b : Address) → (a ≡ b → ⊥) → is_address a b ≡ false
not_address a b n = by_test a b (is_address a b) refl n

same_address : (a : Address) → is_address a a ≡ true
same_address a =
    and_from (nat_eq a.family a.family && bytes_eq a.ip a.ip) (nat_eq a.port a.port)
    (and_from (nat_eq a.family a.family) (bytes_eq a.ip a.ip) (eq-eqb a.family a.family refl) (same_bytes a.ip)) (eq-eqb a.port a.port refl)

-- ---- a packet

taken : (t : Table) (ssrc : ℕ) (from : Address) (o : Option Source) (s : Source) (p : Packet) → Takes t ssrc from o s → (Ok (hear_answer s p) ≡ heard_by t o from p) × (s ≡ source_or from o)
taken t ssrc from None s p (room, is) =
    (ap (λ (x : Source). Ok (hear_answer x p)) is ∙ sym (yes (nat_lt (length t.sources) 64) (Ok (hear_answer (fresh from) p)) (Err LimitSources) (lt-ltb (length t.sources) 64 room)), is)
taken t ssrc from (Some k) s p (here, is) = (
  ap (λ (x : Source). Ok (hear_answer x p)) is
      ∙ sym (yes (is_address k.from from) (Ok (hear_answer k p)) (Err (Collision k.from from)) (subst (λ (a : Address). is_address k.from a ≡ true) here (same_address k.from))),
  is,
)

-- the answer, and the table by the answer
abbrev Says : Table → Table → Address → ℕ → Packet → Result Heard Refuse → Type 0
Says t new from ssrc p answer = (answer ≡ heard t from ssrc p) × (new ≡ heard_next_by t from ssrc p answer)

not_own : (t : Table) (from : Address) (ssrc : ℕ) (p : Packet) → (ssrc ≡ t.own → ⊥) → heard t from ssrc p ≡ heard_by t (kept t ssrc) from p
not_own t from ssrc p n = no (nat_eq ssrc t.own) (Err Own) (heard_by t (kept t ssrc) from p) (ne_eqb ssrc t.own n)

says : (t new : Table) (from : Address) (ssrc : ℕ) (p : Packet) (answer : Result Heard Refuse) → Hears t from ssrc p answer new → IsAnswer answer → Says t new from ssrc p answer
says t new from ssrc p (Ok h) (other, s, takes, answered, is) a =
    let e = taken t ssrc from (kept t ssrc) s p takes in (
      ap (λ (x : Heard). Ok x) answered ∙ e.0 ∙ sym (not_own t from ssrc p other),
      is ∙ ap (λ (x : Source). record (with_source t ssrc (hear_next x p)) { heard = t.heard + 1 }) e.1,
    )
says t new from ssrc p (Err Own) (own, is) a = (sym (yes (nat_eq ssrc t.own) (Err Own) (heard_by t (kept t ssrc) from p) (eq-eqb ssrc t.own own)), is)
says t new from ssrc p (Err LimitSources) (other, absent, full, is) a = (
  sym (not_own t from ssrc p other ∙ ap (λ (o : Option Source). heard_by t o from p) absent
      ∙ no (nat_lt (length t.sources) 64) (Ok (hear_answer (fresh from) p)) (Err LimitSources) (le-ltb (length t.sources) 64 full)),
  is,
)
says t new from ssrc p (Err (Collision first last)) (other, s, there, one, two, apart, is) a = (
  ap (λ (x : Address). Err (Collision x last)) one ∙ ap (λ (x : Address). Err (Collision s.from x)) two
      ∙ sym (not_own t from ssrc p other ∙ ap (λ (o : Option Source). heard_by t o from p) there
      ∙ no (is_address s.from from) (Ok (hear_answer s p)) (Err (Collision s.from from)) (not_address s.from from apart)),
  is,
)
says t new from ssrc p (Err OutOfMemory) h a = absurd a

pub one_hearing : IsOneHearing
one_hearing t new from ssrc p answer h a =
    let e = says t new from ssrc p answer h a in
    (e.0, e.1 ∙ ap (heard_next_by t from ssrc p) e.0)

-- ---- a name

name_is : (o : Option (List ℕ)) (text : List ℕ) → o ≡ Some text → is_name text o ≡ true
name_is o text e = subst (λ (x : Option (List ℕ)). is_name text x ≡ true) (sym e) (same_bytes text)

pub is_the_name : (o : Option (List ℕ)) (text : List ℕ) → is_name text o ≡ true → o ≡ Some text
is_the_name None text e = absurd (false≢true e)
is_the_name (Some name) text e = ap (λ (x : List ℕ). Some x) (same_ip name text e)

by_name : (o : Option (List ℕ)) (text : List ℕ) (t : Bool) → is_name text o ≡ t → (o ≡ Some text → ⊥) → t ≡ false
by_name o text true e n = absurd (n (is_the_name o text e))
by_name o text false e n = refl

kept_named : (o : Option Source) (name : Option (List ℕ)) (text : List ℕ) → (o ≡ None → ⊥) → named_by o name text ≡ (if is_name text name then Same else Changed)
kept_named None name text n = absurd (n refl)
kept_named (Some s) name text n = refl

abbrev Tells : Table → Table → ℕ → List ℕ → Named → Type 0
Tells t new ssrc text answer = (answer ≡ named t ssrc text) × (new ≡ name_next_by t ssrc text answer)

tells : (t new : Table) (ssrc : ℕ) (text : List ℕ) (answer : Named) → Names t ssrc text answer new → Tells t new ssrc text answer
tells t new ssrc text Unknown (absent, is) = (ap (λ (o : Option Source). named_by o (name_of t ssrc) text) (sym absent), is)
tells t new ssrc text Same (there, same, is) =
    (sym (kept_named (kept t ssrc) (name_of t ssrc) text there ∙ yes (is_name text (name_of t ssrc)) Same Changed (name_is (name_of t ssrc) text same)), is)
tells t new ssrc text Changed (there, other, is) =
    (sym (kept_named (kept t ssrc) (name_of t ssrc) text there ∙ no (is_name text (name_of t ssrc)) Same Changed (by_name (name_of t ssrc) text (is_name text (name_of t ssrc)) refl other)), is)

pub one_naming : IsOneNaming
one_naming t new ssrc text answer h =
    let e = tells t new ssrc text answer h in
    (e.0, e.1 ∙ ap (name_next_by t ssrc text) e.0)
