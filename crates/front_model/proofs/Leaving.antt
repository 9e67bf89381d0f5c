-- A report time takes the names and the waiting packets of the sources that it removes, and no others.
use Rattle.std.proofs.Common.{ℕ, ◌≡◌, refl, sym, ap, ◌∙◌, Bool, true, false, cond, not, List, [], ◌∷◌, Option, None, Some, eqb-true}
use Rattle.std.specs.Prelude.{nat_eq, if◌then◌else◌, filter, option_map}
use Rattle.std.specs.Map.{lookup}
use Rattle.std.specs.List.{list_any}
use Rattle.source_table.specs.declared.source.Source.{Source}
use Rattle.source_table.specs.History.{only_if}
use Rattle.source_table.specs.Sources.{is_gone, reported}
use Rattle.source_table.specs.Table.{kept, name_of, gone}
use Rattle.front_model.specs.Given.{Setting, Ask, Closes, table}
use Rattle.front_model.specs.Probation.{Kept, waiting, is_removed}
use Rattle.front_model.specs.Laws.{IsAlike}
use Rattle.front_model.proofs.Closing.{closed, removed}

abbrev Texts : Type 0
Texts = List (ℕ × List ℕ)

abbrev at : ℕ → Texts → Option (List ℕ)
at k es = lookup (nat_eq k) es

-- ---- entries that stay by their keys

neither : (b : Bool) (o p : Option (List ℕ)) → b ≡ false → cond b o None ≡ cond b p None
neither b o p e = rw e refl

stays_by : (stays : ℕ → Bool) (c b : Bool) (k : ℕ) (x : ℕ × List ℕ) (es left : Texts) → nat_eq k x.0 ≡ c → stays x.0 ≡ b
    → at k left ≡ cond (stays k) (at k es) None → at k (cond b (x ∷ left) left) ≡ cond (stays k) (cond c (Some x.1) (at k es)) None
stays_by stays true true k x es left e t rest =
    let same : stays k ≡ true = ap stays (eqb-true k x.0 e) ∙ t in
    rw (e, same) refl
stays_by stays true false k x es left e t rest =
    let same : stays k ≡ false = ap stays (eqb-true k x.0 e) ∙ t in
    rest ∙ neither (stays k) (at k es) (Some x.1) same
stays_by stays false true k x es left e t rest = rw e rest
stays_by stays false false k x es left e t rest = rest

abbrev none : Option (List ℕ)
none = None

none_either : (b : Bool) → none ≡ cond b none none
none_either true = refl
none_either false = refl

at_staying : (stays : ℕ → Bool) (es : Texts) (k : ℕ) → at k (filter (λ e. stays e.0) es) ≡ cond (stays k) (at k es) None
at_staying stays [] k = none_either (stays k)
at_staying stays (x ∷ es) k = stays_by stays (nat_eq k x.0) (stays x.0) k x es (filter (λ e. stays e.0) es) refl refl (at_staying stays es k)

-- ---- names

turned : (b : Bool) (o : Option (List ℕ)) → cond (not b) o None ≡ (if b then None else o)
turned true o = refl
turned false o = refl

pub names : (s : Setting) (before : List Ask) (now timeout ssrc : ℕ)
    → name_of (table s (Closes now timeout ∷ before)) ssrc ≡ (if is_removed (kept (table s before) ssrc) now timeout then None else name_of (table s before) ssrc)
names s before now timeout ssrc =
    at_staying (λ x. not (list_any (nat_eq x) (gone (table s before) now timeout))) (table s before).names ssrc
    ∙ ap (λ (b : Bool). cond (not b) (name_of (table s before) ssrc) None) (removed s before now timeout ssrc)
    ∙ turned (is_removed (kept (table s before) ssrc) now timeout) (name_of (table s before) ssrc)

-- ---- what was alike

abbrev named_if : ℕ → ℕ → Option Source → Option (List ℕ) → Option (List ℕ)
named_if now timeout o name = if is_removed o now timeout then None else name

abbrev waiting_if : ℕ → ℕ → Option Source → List Kept → List Kept
waiting_if now timeout o ks = if is_removed o now timeout then [] else ks

pub alike : (s : Setting) (ssrc now timeout : ℕ) (here there : List Ask) → IsAlike s ssrc here there → IsAlike s ssrc (Closes now timeout ∷ here) (Closes now timeout ∷ there)
alike s ssrc now timeout here there a = record {
  source =
      closed s here now timeout ssrc
      ∙ ap (λ (o : Option Source). option_map reported (only_if (λ x. not (is_gone x now timeout)) o)) a.source
      ∙ sym (closed s there now timeout ssrc);
  name =
      names s here now timeout ssrc
      ∙ ap (λ (o : Option Source). named_if now timeout o (name_of (table s here) ssrc)) a.source
      ∙ ap (λ (n : Option (List ℕ)). named_if now timeout (kept (table s there) ssrc) n) a.name
      ∙ sym (names s there now timeout ssrc);
  waiting =
      ap (λ (o : Option Source). waiting_if now timeout o (waiting s ssrc here)) a.source
      ∙ ap (λ (ks : List Kept). waiting_if now timeout (kept (table s there) ssrc) ks) a.waiting;
}
