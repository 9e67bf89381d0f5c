-- Calls on other sources change nothing of a source.
use Rattle.std.proofs.Common.{ℕ, ◌≡◌, refl, ap, subst, Bool, true, false, cond, List, [], ◌∷◌, Option, None, Some, eqb-true}
use Rattle.std.specs.Prelude.{nat_eq, Result, Ok, Err}
use Rattle.std.specs.Map.{lookup}
use Rattle.indexmap.specs.IndexMap.{insert_entry}
use Rattle.rtp_units.specs.declared.shared.Address.{Address}
use Rattle.source_table.specs.declared.source.Source.{Source}
use Rattle.source_table.specs.declared.source.Packet.{Packet}
use Rattle.source_table.specs.declared.source.Heard.{Heard}
use Rattle.source_table.specs.declared.answers.Refuse.{Refuse}
use Rattle.source_table.specs.declared.answers.Named.{Named}
use Rattle.source_table.specs.declared.answers.Named.TheVariants.{Unknown, Same, Changed}
use Rattle.source_table.specs.Answers.{source_or, heard, heard_next_by, named, name_next_by}
use Rattle.source_table.specs.Sources.{hear_next, report_next, left_next}
use Rattle.source_table.specs.Table.{Table, kept, name_of, packet_of, changed_by}
use Rattle.front_model.specs.Given.{Setting, Ask, Hears, Names, Reports, Leaves, Closes, is_quick, table}
use Rattle.front_model.specs.Probation.{waiting}
use Rattle.front_model.specs.Laws.{concerns, IsAlike}

module _ {X : Type 0} where
  other_by : (b : Bool) (j k x : ℕ) (v w : X) (es ins : List (ℕ × X)) → nat_eq k x ≡ b → nat_eq j k ≡ false → lookup (nat_eq j) ins ≡ lookup (nat_eq j) es
      → lookup (nat_eq j) (cond b ((x, v) ∷ es) ((x, w) ∷ ins)) ≡ lookup (nat_eq j) ((x, w) ∷ es)
  other_by true j k x v w es ins e other rest =
      let same : k ≡ x = eqb-true k x e in
      let apart : nat_eq j x ≡ false = subst (λ (y : ℕ). nat_eq j y ≡ false) same other in
      rw apart refl
  other_by false j k x v w es ins e other rest = ap (λ (o : Option X). cond (nat_eq j x) (Some w) o) rest

  at_other : (es : List (ℕ × X)) (j k : ℕ) (v : X) → nat_eq j k ≡ false → lookup (nat_eq j) (insert_entry nat_eq es k v) ≡ lookup (nat_eq j) es
  at_other [] j k v other = rw other refl
  at_other (e ∷ es) j k v other = other_by (nat_eq k e.0) j k e.0 v e.1 es (insert_entry nat_eq es k v) refl other (at_other es j k v other)

abbrev IsOn : Bool → Type 0
IsOn true = Unit {0}
IsOn false = ⊥

-- what holds of a source and its name in two tables
record Same2 (ssrc : ℕ) (new old : Table) : Type 0 where
  source : kept new ssrc ≡ kept old ssrc
  name : name_of new ssrc ≡ name_of old ssrc

after_packet : (t : Table) (from : Address) (x ssrc : ℕ) (p : Packet) (r : Result Heard Refuse) → nat_eq ssrc x ≡ false → Same2 ssrc (heard_next_by t from x p r) t
after_packet t from x ssrc p (Ok h) e = record { source = at_other t.sources ssrc x (hear_next (source_or from (kept t x)) p) e; name = refl }
after_packet t from x ssrc p (Err why) e = record { source = refl; name = refl }

after_name : (t : Table) (x ssrc : ℕ) (text : List ℕ) (n : Named) → nat_eq ssrc x ≡ false → Same2 ssrc (name_next_by t x text n) t
after_name t x ssrc text Changed e = record { source = refl; name = at_other t.names ssrc x text e }
after_name t x ssrc text Same e = record { source = refl; name = refl }
after_name t x ssrc text Unknown e = record { source = refl; name = refl }

after_change : (t : Table) (x ssrc : ℕ) (o : Option Source) (f : Source → Source) → nat_eq ssrc x ≡ false → Same2 ssrc (changed_by t x o f) t
after_change t x ssrc None f e = record { source = refl; name = refl }
after_change t x ssrc (Some s) f e = record { source = at_other t.sources ssrc x (f s) e; name = refl }

alike : (s : Setting) (ssrc : ℕ) (ask : Ask) (before : List Ask) → Same2 ssrc (table s (ask ∷ before)) (table s before) → waiting s ssrc (ask ∷ before) ≡ waiting s ssrc before → IsAlike s ssrc (ask ∷ before) before
alike s ssrc ask before e w = record { source = e.source; name = e.name; waiting = w }

pub untouched : (s : Setting) (ssrc : ℕ) (ask : Ask) (before : List Ask) → concerns ssrc ask ≡ false → IsAlike s ssrc (ask ∷ before) before
untouched s ssrc (Hears now from view rate) before e =
    alike s ssrc (Hears now from view rate) before
    (after_packet (table s before) from view.ssrc ssrc (packet_of (table s before) now view rate (is_quick s view.ssrc))
    (heard (table s before) from view.ssrc (packet_of (table s before) now view rate (is_quick s view.ssrc))) e)
    (rw e refl)
untouched s ssrc (Names x text) before e = alike s ssrc (Names x text) before (after_name (table s before) x ssrc text (named (table s before) x text) e) refl
untouched s ssrc (Reports now x seconds fraction rtp) before e =
    alike s ssrc (Reports now x seconds fraction rtp) before (after_change (table s before) x ssrc (kept (table s before) x) (λ y. report_next y now seconds fraction) e) refl
untouched s ssrc (Leaves x) before e = alike s ssrc (Leaves x) before (after_change (table s before) x ssrc (kept (table s before) x) left_next e) refl
untouched s ssrc (Closes now timeout) before e = absurd (subst IsOn e tt)
