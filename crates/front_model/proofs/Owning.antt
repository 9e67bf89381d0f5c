-- What is told of a source, and what becomes of it, hangs on the source, its name and its waiting packets.
use Rattle.std.proofs.Common.{ℕ, ◌≡◌, refl, sym, ap, subst, ◌∙◌, Bool, true, false, cond, List, [], ◌∷◌, Option, None, Some, eq-eqb}
use Rattle.std.specs.Prelude.{if◌then◌else◌, nat_eq, nat_lt, length, is_some, Result, Ok, Err}
use Rattle.std.specs.Map.{lookup}
use Rattle.indexmap.specs.IndexMap.{insert_entry}
use Rattle.rtp_units.specs.declared.shared.Address.{Address}
use Rattle.rtp_units.specs.Numbers.{ntp_time}
use Rattle.rtp_wire.specs.Packet.{Packet as View}
use Rattle.source_table.specs.declared.source.Source.{Source}
use Rattle.source_table.specs.declared.source.Packet.{Packet}
use Rattle.source_table.specs.declared.source.Heard.{Heard}
use Rattle.source_table.specs.declared.answers.Refuse.{Refuse}
use Rattle.source_table.specs.declared.answers.Refuse.TheVariants.{Own, LimitSources}
use Rattle.source_table.specs.declared.answers.Named.{Named}
use Rattle.source_table.specs.declared.answers.Named.TheVariants.{Unknown, Same, Changed}
use Rattle.source_table.specs.Answers.{source_or, heard, heard_by, heard_of_kept, heard_next_by, named, named_by, name_next_by}
use Rattle.source_table.specs.Sources.{fresh, hear_next, hear_answer, report_next, left_next}
use Rattle.source_table.specs.Table.{Table, kept, name_of, packet_of, changed_by}
use Rattle.front_model.specs.Given.{Setting, Ask, Hears, Names, Reports, Leaves, Closes, is_quick, table}
use Rattle.front_model.specs.Probation.{Kept, kept_at, answer, waiting, waiting_next}
use Rattle.front_model.specs.Notes.{Synced, Stray, Left, packet_notes, name_notes, ask_notes}
use Rattle.front_model.specs.Laws.{subject, has_room, IsAlike, IsTakenAlike}

abbrev the_one : Option ℕ → ℕ
the_one None = 0
the_one (Some x) = x

the_same : (x y : ℕ) → Some x ≡ Some y → x ≡ y
the_same x y e = ap the_one e

abbrev IsNothing : Option ℕ → Type 0
IsNothing None = Unit {0}
IsNothing (Some x) = ⊥

-- ---- what never changes

record Kept2 (s : Setting) (t : Table) : Type 0 where
  own : t.own ≡ s.own
  probation : t.probation ≡ s.probation

keeps_packet : (s : Setting) (t : Table) (from : Address) (x : ℕ) (p : Packet) (r : Result Heard Refuse) → Kept2 s t → Kept2 s (heard_next_by t from x p r)
keeps_packet s t from x p (Ok h) k = record { own = k.own; probation = k.probation }
keeps_packet s t from x p (Err why) k = k

keeps_name : (s : Setting) (t : Table) (x : ℕ) (text : List ℕ) (n : Named) → Kept2 s t → Kept2 s (name_next_by t x text n)
keeps_name s t x text Changed k = record { own = k.own; probation = k.probation }
keeps_name s t x text Same k = k
keeps_name s t x text Unknown k = k

keeps_change : (s : Setting) (t : Table) (x : ℕ) (o : Option Source) (f : Source → Source) → Kept2 s t → Kept2 s (changed_by t x o f)
keeps_change s t x None f k = k
keeps_change s t x (Some y) f k = record { own = k.own; probation = k.probation }

keeps : (s : Setting) (asks : List Ask) → Kept2 s (table s asks)
keeps s [] = record { own = refl; probation = refl }
keeps s (Hears now from view rate ∷ before) = keeps_packet s (table s before) from view.ssrc _ _ (keeps s before)
keeps s (Names x text ∷ before) = keeps_name s (table s before) x text _ (keeps s before)
keeps s (Reports now x seconds fraction rtp ∷ before) = keeps_change s (table s before) x _ _ (keeps s before)
keeps s (Leaves x ∷ before) = keeps_change s (table s before) x _ _ (keeps s before)
keeps s (Closes now timeout ∷ before) = let k = keeps s before in record { own = k.own; probation = k.probation }

-- ---- a packet

abbrev heard_in : Option Source → Bool → Address → Packet → Result Heard Refuse
heard_in None room from p = if room then Ok (hear_answer (fresh from) p) else Err LimitSources
heard_in (Some s) room from p = heard_of_kept s from p

abbrev heard_from : ℕ → Option Source → Bool → Address → ℕ → Packet → Result Heard Refuse
heard_from own o room from ssrc p = if nat_eq ssrc own then Err Own else heard_in o room from p

by_parts : (t : Table) (o : Option Source) (from : Address) (p : Packet) → heard_by t o from p ≡ heard_in o (nat_lt (length t.sources) 64) from p
by_parts t None from p = refl
by_parts t (Some s) from p = refl

heard_parts : (t : Table) (from : Address) (ssrc : ℕ) (p : Packet) → heard t from ssrc p ≡ heard_from t.own (kept t ssrc) (nat_lt (length t.sources) 64) from ssrc p
heard_parts t from ssrc p = ap (λ (r : Result Heard Refuse). if nat_eq ssrc t.own then Err Own else r) (by_parts t (kept t ssrc) from p)

-- two tables that tell a packet of an SSRC the same
record Tells (s : Setting) (ssrc : ℕ) (t u : Table) : Type 0 where
  one : Kept2 s t
  other : Kept2 s u
  source : kept t ssrc ≡ kept u ssrc
  room : kept t ssrc ≡ None → nat_lt (length t.sources) 64 ≡ nat_lt (length u.sources) 64

same_in : (o : Option Source) (a b : Bool) (from : Address) (p : Packet) → (o ≡ None → a ≡ b) → heard_in o a from p ≡ heard_in o b from p
same_in None a b from p e = ap (λ (room : Bool). heard_in None room from p) (e refl)
same_in (Some s) a b from p e = refl

same_packet : (s : Setting) (t u : Table) (now : ℕ) (view : View) (rate : Option ℕ) (quick : Bool) → Kept2 s t → Kept2 s u → packet_of t now view rate quick ≡ packet_of u now view rate quick
same_packet s t u now view rate quick k l = ap (λ (n : ℕ). packet_of (record t { probation = n }) now view rate quick) (k.probation ∙ sym l.probation)

same_heard : (s : Setting) (ssrc : ℕ) (t u : Table) (from : Address) (p : Packet) → Tells s ssrc t u → heard t from ssrc p ≡ heard u from ssrc p
same_heard s ssrc t u from p e =
    heard_parts t from ssrc p
    ∙ ap (λ (own : ℕ). heard_from own (kept t ssrc) (nat_lt (length t.sources) 64) from ssrc p) (e.one.own ∙ sym e.other.own)
    ∙ ap (λ (r : Result Heard Refuse). if nat_eq ssrc u.own then Err Own else r) (same_in (kept t ssrc) (nat_lt (length t.sources) 64) (nat_lt (length u.sources) 64) from p e.room)
    ∙ ap (λ (o : Option Source). heard_from u.own o (nat_lt (length u.sources) 64) from ssrc p) e.source
    ∙ sym (heard_parts u from ssrc p)

-- ---- a source that is put

module _ {X : Type 0} where
  same_by : (b : Bool) (k x : ℕ) (v w : X) (es ins : List (ℕ × X)) → nat_eq k x ≡ b → lookup (nat_eq k) ins ≡ Some v → lookup (nat_eq k) (cond b ((x, v) ∷ es) ((x, w) ∷ ins)) ≡ Some v
  same_by true k x v w es ins e rest = rw e refl
  same_by false k x v w es ins e rest = rw e rest

  at_same : (es : List (ℕ × X)) (k : ℕ) (v : X) → lookup (nat_eq k) (insert_entry nat_eq es k v) ≡ Some v
  at_same [] k v = let e : nat_eq k k ≡ true = eq-eqb k k refl in rw e refl
  at_same (e ∷ es) k v = same_by (nat_eq k e.0) k e.0 v e.1 es (insert_entry nat_eq es k v) refl (at_same es k v)

abbrev next_source : Option Source → Address → Packet → Result Heard Refuse → Option Source
next_source o from p (Ok h) = Some (hear_next (source_or from o) p)
next_source o from p (Err why) = o

source_next : (t : Table) (from : Address) (ssrc : ℕ) (p : Packet) (r : Result Heard Refuse) → kept (heard_next_by t from ssrc p r) ssrc ≡ next_source (kept t ssrc) from p r
source_next t from ssrc p (Ok h) = at_same t.sources ssrc (hear_next (source_or from (kept t ssrc)) p)
source_next t from ssrc p (Err why) = refl

same_names : (t : Table) (from : Address) (ssrc : ℕ) (p : Packet) (r : Result Heard Refuse) → name_of (heard_next_by t from ssrc p r) ssrc ≡ name_of t ssrc
same_names t from ssrc p (Ok h) = refl
same_names t from ssrc p (Err why) = refl

abbrev changed_source : Option Source → (Source → Source) → Option Source
changed_source None f = None
changed_source (Some s) f = Some (f s)

source_change : (t : Table) (ssrc : ℕ) (o : Option Source) (f : Source → Source) → kept t ssrc ≡ o → kept (changed_by t ssrc o f) ssrc ≡ changed_source o f
source_change t ssrc None f e = e
source_change t ssrc (Some s) f e = at_same t.sources ssrc (f s)

names_change : (t : Table) (ssrc x : ℕ) (o : Option Source) (f : Source → Source) → name_of (changed_by t x o f) ssrc ≡ name_of t ssrc
names_change t ssrc x None f = refl
names_change t ssrc x (Some s) f = refl

abbrev next_name : Option (List ℕ) → List ℕ → Named → Option (List ℕ)
next_name name text Changed = Some text
next_name name text Same = name
next_name name text Unknown = name

name_change : (t : Table) (ssrc : ℕ) (text : List ℕ) (n : Named) → name_of (name_next_by t ssrc text n) ssrc ≡ next_name (name_of t ssrc) text n
name_change t ssrc text Changed = at_same t.names ssrc text
name_change t ssrc text Same = refl
name_change t ssrc text Unknown = refl

source_name : (t : Table) (ssrc x : ℕ) (text : List ℕ) (n : Named) → kept (name_next_by t x text n) ssrc ≡ kept t ssrc
source_name t ssrc x text Changed = refl
source_name t ssrc x text Same = refl
source_name t ssrc x text Unknown = refl

-- ---- calls about one source

abbrev Alike : Setting → ℕ → Ask → List Ask → List Ask → Type 0
Alike s ssrc ask here there = (ask_notes s here ask ≡ ask_notes s there ask) × IsAlike s ssrc (ask ∷ here) (ask ∷ there)

tells : (s : Setting) (ssrc : ℕ) (here there : List Ask) → IsAlike s ssrc here there → (kept (table s here) ssrc ≡ None → has_room s here ≡ has_room s there) → Tells s ssrc (table s here) (table s there)
tells s ssrc here there e room = record { one = keeps s here; other = keeps s there; source = e.source; room = room }

about_packet : (s : Setting) (now : ℕ) (from : Address) (view : View) (rate : Option ℕ) (here there : List Ask) → IsAlike s view.ssrc here there
    → (kept (table s here) view.ssrc ≡ None → has_room s here ≡ has_room s there) → Alike s view.ssrc (Hears now from view rate) here there
about_packet s now from view rate here there e room =
    let t = table s here in
    let u = table s there in
    let x = view.ssrc in
    let p = packet_of t now view rate (is_quick s x) in
    let q = packet_of u now view rate (is_quick s x) in
    let pq : p ≡ q = same_packet s t u now view rate (is_quick s x) (keeps s here) (keeps s there) in
    let told : answer s here now from view rate ≡ answer s there now from view rate =
    same_heard s x t u from p (tells s x here there e room) ∙ ap (λ (k : Packet). heard u from x k) pq in (
      ap (λ (ks : List Kept). packet_notes ks (kept_at now view) (answer s here now from view rate)) e.waiting
          ∙ ap (λ (r : Result Heard Refuse). packet_notes (waiting s x there) (kept_at now view) r) told,
      record {
        source =
            source_next t from x p (heard t from x p)
            ∙ ap (λ (o : Option Source). next_source o from p (heard t from x p)) e.source
            ∙ ap (λ (k : Packet). next_source (kept u x) from k (heard t from x p)) pq
            ∙ ap (λ (r : Result Heard Refuse). next_source (kept u x) from q r) told
            ∙ sym (source_next u from x q (heard u from x q));
        name = same_names t from x p (heard t from x p) ∙ e.name ∙ sym (same_names u from x q (heard u from x q));
        waiting =
            ap (λ (ks : List Kept). if nat_eq x x then waiting_next ks (kept_at now view) (answer s here now from view rate) else ks) e.waiting
            ∙ ap (λ (r : Result Heard Refuse). if nat_eq x x then waiting_next (waiting s x there) (kept_at now view) r else waiting s x there) told;
      },
    )

about_name : (s : Setting) (x : ℕ) (text : List ℕ) (here there : List Ask) → IsAlike s x here there → Alike s x (Names x text) here there
about_name s x text here there e =
    let t = table s here in
    let u = table s there in
    let told : named t x text ≡ named u x text =
    ap (λ (o : Option Source). named_by o (name_of t x) text) e.source ∙ ap (λ (o : Option (List ℕ)). named_by (kept u x) o text) e.name in (
      ap (name_notes x text) told,
      record {
        source = source_name t x x text (named t x text) ∙ e.source ∙ sym (source_name u x x text (named u x text));
        name =
            name_change t x text (named t x text)
            ∙ ap (λ (o : Option (List ℕ)). next_name o text (named t x text)) e.name
            ∙ ap (λ (n : Named). next_name (name_of u x) text n) told
            ∙ sym (name_change u x text (named u x text));
        waiting = e.waiting;
      },
    )

about_change : (s : Setting) (x : ℕ) (f : Source → Source) (here there : List Ask) → IsAlike s x here there
    → (kept (changed_by (table s here) x (kept (table s here) x) f) x ≡ kept (changed_by (table s there) x (kept (table s there) x) f) x)
    × (name_of (changed_by (table s here) x (kept (table s here) x) f) x ≡ name_of (changed_by (table s there) x (kept (table s there) x) f) x)
about_change s x f here there e = (
  source_change (table s here) x (kept (table s here) x) f refl
      ∙ ap (λ (o : Option Source). changed_source o f) e.source
      ∙ sym (source_change (table s there) x (kept (table s there) x) f refl),
  names_change (table s here) x x (kept (table s here) x) f ∙ e.name ∙ sym (names_change (table s there) x x (kept (table s there) x) f),
)

pub own : (s : Setting) (ssrc : ℕ) (ask : Ask) (here there : List Ask) → subject ask ≡ Some ssrc → IsAlike s ssrc here there → IsTakenAlike s ask here there → Alike s ssrc ask here there
own s ssrc (Hears now from view rate) here there e a room =
    let same : ssrc ≡ view.ssrc = sym (the_same view.ssrc ssrc e) in
    subst (λ (x : ℕ). Alike s x (Hears now from view rate) here there) (sym same)
    (about_packet s now from view rate here there (subst (λ (x : ℕ). IsAlike s x here there) same a) room)
own s ssrc (Names x text) here there e a room =
    let same : ssrc ≡ x = sym (the_same x ssrc e) in
    subst (λ (y : ℕ). Alike s y (Names x text) here there) (sym same) (about_name s x text here there (subst (λ (y : ℕ). IsAlike s y here there) same a))
own s ssrc (Reports now x seconds fraction rtp) here there e a room =
    let same : ssrc ≡ x = sym (the_same x ssrc e) in
    let b = subst (λ (y : ℕ). IsAlike s y here there) same a in
    let c = about_change s x (λ y. report_next y now seconds fraction) here there b in
    subst (λ (y : ℕ). Alike s y (Reports now x seconds fraction rtp) here there) (sym same)
    (ap (λ (o : Option Source). if is_some o then Synced x (ntp_time seconds fraction) rtp ∷ [] else Stray x ∷ []) b.source, record { source = c.0; name = c.1; waiting = b.waiting })
own s ssrc (Leaves x) here there e a room =
    let same : ssrc ≡ x = sym (the_same x ssrc e) in
    let b = subst (λ (y : ℕ). IsAlike s y here there) same a in
    let c = about_change s x left_next here there b in
    subst (λ (y : ℕ). Alike s y (Leaves x) here there) (sym same)
    (ap (λ (o : Option Source). if is_some o then Left x ∷ [] else []) b.source, record { source = c.0; name = c.1; waiting = b.waiting })
own s ssrc (Closes now timeout) here there e a room = absurd (subst IsNothing e tt)
