-- A table keeps of each source what the calls on it leave.
use Rattle.std.proofs.Common.{◌≡◌, ℕ, Bool, true, false, cond, not, nat_eq, List, [], ◌∷◌, Option, Some, None, Ok, Err, map, filter, refl, sym, ap, subst, ◌∙◌}
use Rattle.std.specs.Prelude.{◌||◌, Result, option_map, if◌then◌else◌}
use Rattle.std.specs.List.{list_any}
use Rattle.std.specs.Map.{lookup}
use Rattle.std.proofs.lemmas.Bool.{eqb-true}
use Rattle.indexmap.specs.IndexMap.{insert_entry}
use Rattle.rtp_units.specs.declared.shared.Address.{Address}
use Rattle.rtp_wire.specs.Packet.{Packet as View}
use Rattle.source_table.specs.declared.source.Source.{Source}
use Rattle.source_table.specs.declared.source.Packet.{Packet}
use Rattle.source_table.specs.declared.source.Heard.{Heard}
use Rattle.source_table.specs.declared.answers.Refuse.{Refuse}
use Rattle.source_table.specs.declared.answers.Named.{Named}
use Rattle.source_table.specs.declared.answers.Named.TheVariants.{Same, Changed}
use Rattle.source_table.specs.Sources.{hear_next, report_next, left_next, is_gone, reported}
use Rattle.source_table.specs.Table.{Table, kept, name_of, packet_of, with_source, changed_by, changed, all_reported, gone, expired}
use Rattle.source_table.specs.Answers.{source_or, is_name, heard, heard_next_by, named_by, name_next_by}
use Rattle.source_table.specs.History.{Call, Rtp, Reports, Leaves, Sets, Block, Blocks, Expires, table, IsAnswered, AreAnswered, StandsFor, Told, told_of, told, told_name, packet_by, only_if, told_heard, told_changed, told_named, alone_next, alone, IsIsolated, IsNamedIfKept}
use Rattle.source_table.proofs.Answering.{is_the_name}
use Rattle.source_table.proofs.Entries.{at, Distinct, distinct_put, put_at}

abbrev Entries : Type 0
Entries = List (ℕ × Source)

abbrev Names : Type 0
Names = List (ℕ × List ℕ)

-- ---- sources that are left

abbrev left : (Source → Bool) → Entries → Entries
left p es = filter (λ e. p e.1) es

kept_by : (q b : Bool) (k x : ℕ) (p : Source → Bool) (v : Source) (es : Entries) → p v ≡ q → nat_eq k x ≡ b → at x es ≡ None → at k (left p es) ≡ only_if p (at k es)
    → at k (cond q ((x, v) ∷ left p es) (left p es)) ≡ only_if p (at k ((x, v) ∷ es))
kept_by true true k x p v es pv e none rest = rw (e, pv) refl
kept_by true false k x p v es pv e none rest = rw e rest
kept_by false true k x p v es pv e none rest =
    let same : k ≡ x = eqb-true k x e in
    let gone : at k es ≡ None = subst (λ (y : ℕ). at y es ≡ None) (sym same) none in
    rest ∙ ap (only_if p) gone ∙ rw (e, pv) refl
kept_by false false k x p v es pv e none rest = rw e rest

left_at : (es : Entries) (k : ℕ) (p : Source → Bool) → Distinct es → at k (left p es) ≡ only_if p (at k es)
left_at [] k p d = refl
left_at (e ∷ es) k p d = kept_by (p e.1) (nat_eq k e.0) k e.0 p e.1 es refl refl d.0 (left_at es k p d.1)

distinct_kept : (q : Bool) (x : ℕ) (p : Source → Bool) (v : Source) (es : Entries) → at x (left p es) ≡ None → Distinct (left p es) → Distinct (cond q ((x, v) ∷ left p es) (left p es))
distinct_kept true x p v es none d = (none, d)
distinct_kept false x p v es none d = d

distinct_left : (es : Entries) (p : Source → Bool) → Distinct es → Distinct (left p es)
distinct_left [] p d = tt
distinct_left (e ∷ es) p d = distinct_kept (p e.1) e.0 p e.1 es (left_at es e.0 p d.1 ∙ ap (only_if p) d.0) (distinct_left es p d.1)

-- ---- all sources, each changed

changed_by_test : (b : Bool) (f : Source → Source) (v : Source) (o p : Option Source) → p ≡ option_map f o → cond b (Some (f v)) p ≡ option_map f (cond b (Some v) o)
changed_by_test true f v o p e = refl
changed_by_test false f v o p e = e

pub map_at : (f : Source → Source) (es : Entries) (k : ℕ) → at k (map (λ e. (e.0, f e.1)) es) ≡ option_map f (at k es)
map_at f [] k = refl
map_at f (e ∷ es) k = changed_by_test (nat_eq k e.0) f e.1 (at k es) (at k (map (λ x. (x.0, f x.1)) es)) (map_at f es k)

distinct_map : (f : Source → Source) (es : Entries) → Distinct es → Distinct (map (λ e. (e.0, f e.1)) es)
distinct_map f [] d = tt
distinct_map f (e ∷ es) d = (map_at f es e.0 ∙ ap (option_map f) d.0, distinct_map f es d.1)

-- ---- sources that are gone, and names without them

abbrev has : (Source → Bool) → Option Source → Bool
has p None = false
has p (Some s) = p s

gone_by : (q b : Bool) (k : ℕ) (e : ℕ × Source) (p : Source → Bool) (es left_ones : Entries) → p e.1 ≡ q → nat_eq k e.0 ≡ b → at e.0 es ≡ None
    → list_any (nat_eq k) (map (λ x. x.0) left_ones) ≡ has p (at k es) → list_any (nat_eq k) (map (λ x. x.0) (cond q (e ∷ left_ones) left_ones)) ≡ has p (cond b (Some e.1) (at k es))
gone_by true true k e p es l f g d h = ap (λ (c : Bool). c || list_any (nat_eq k) (map (λ x. x.0) l)) g ∙ sym f
gone_by true false k e p es l f g d h = ap (λ (c : Bool). c || list_any (nat_eq k) (map (λ x. x.0) l)) g ∙ h
gone_by false true k e p es l f g d h =
    let same : k ≡ e.0 = eqb-true k e.0 g in
    let none : at k es ≡ None = subst (λ (y : ℕ). at y es ≡ None) (sym same) d in
    h ∙ ap (has p) none ∙ sym f
gone_by false false k e p es l f g d h = h

gone_at : (p : Source → Bool) (es : Entries) (k : ℕ) → Distinct es → list_any (nat_eq k) (map (λ e. e.0) (filter (λ e. p e.1) es)) ≡ has p (at k es)
gone_at p [] k d = refl
gone_at p (e ∷ es) k d = gone_by (p e.1) (nat_eq k e.0) k e p es (filter (λ x. p x.1) es) refl refl d.0 (gone_at p es k d.1)

without_by : (g b : Bool) (k : ℕ) (e : ℕ × List ℕ) (ns left : Names) (all : Bool) → nat_eq k e.0 ≡ b → (nat_eq k e.0 ≡ true → g ≡ all)
    → lookup (nat_eq k) left ≡ cond all None (lookup (nat_eq k) ns) → lookup (nat_eq k) (cond (not g) (e ∷ left) left) ≡ cond all None (lookup (nat_eq k) (e ∷ ns))
without_by true true k e ns left true b same h = h
without_by false true k e ns left false b same h = rw b refl
without_by true true k e ns left false b same h = absurd (let x : true ≡ false = same b in cc)
without_by false true k e ns left true b same h = absurd (let x : false ≡ true = same b in cc)
without_by true false k e ns left true b same h = h
without_by true false k e ns left false b same h = h ∙ rw b refl
without_by false false k e ns left true b same h = rw b h
without_by false false k e ns left false b same h = rw b h

nothing : (b : Bool) (o : Option (List ℕ)) → o ≡ None → o ≡ cond b None o
nothing true o e = e
nothing false o e = refl

pub names_at : (g : ℕ → Bool) (ns : Names) (k : ℕ) → lookup (nat_eq k) (filter (λ e. not (g e.0)) ns) ≡ cond (g k) None (lookup (nat_eq k) ns)
names_at g [] k = nothing (g k) None refl
names_at g (e ∷ ns) k =
    without_by (g e.0) (nat_eq k e.0) k e ns (filter (λ x. not (g x.0)) ns) (g k) refl (λ b. ap g (sym (eqb-true k e.0 b))) (names_at g ns k)

-- ---- a table and its sources

abbrev pub source_in : Option Told → Option Source
source_in k = option_map (λ x. x.source) k

pub record Is (probation : ℕ) (calls : List Call) (t : Table) : Type 0 where
  pub distinct : Distinct t.sources
  pub setting : t.probation ≡ probation
  pub each : (ssrc : ℕ) → kept t ssrc ≡ source_in (alone probation ssrc calls)
  pub names : (ssrc : ℕ) → name_of t ssrc ≡ told_name (alone probation ssrc calls)

same_table : (probation : ℕ) (calls : List Call) (call : Call) (old new : Table) → new ≡ old → ((ssrc : ℕ) → alone_next probation ssrc (alone probation ssrc calls) call ≡ alone probation ssrc calls) → Is probation calls old → Is probation (call ∷ calls) new
same_table probation calls call old new e stays h =
    subst (λ (t : Table). Is probation (call ∷ calls) t) (sym e) (record {
      distinct = h.distinct;
      setting = h.setting;
      each = λ ssrc. h.each ssrc ∙ sym (ap source_in (stays ssrc));
      names = λ ssrc. h.names ssrc ∙ sym (ap told_name (stays ssrc));
    })

-- a source that is changed where it is kept

source_changed : (f : Source → Source) (b : Bool) (k : Option Told) → cond b (option_map f (source_in k)) (source_in k) ≡ source_in (cond b (option_map (told_changed f) k) k)
source_changed f true None = refl
source_changed f true (Some k) = refl
source_changed f false k = refl

name_stays : (f : Source → Source) (b : Bool) (k : Option Told) → told_name k ≡ told_name (cond b (option_map (told_changed f) k) k)
name_stays f true None = refl
name_stays f true (Some k) = refl
name_stays f false k = refl

none_is : (t : Table) (x ssrc : ℕ) (f : Source → Source) (b : Bool) → nat_eq ssrc x ≡ b → kept t x ≡ None → kept t ssrc ≡ cond b (option_map f (kept t ssrc)) (kept t ssrc)
none_is t x ssrc f true e none =
    let same : x ≡ ssrc = sym (eqb-true ssrc x e) in
    let here : kept t ssrc ≡ None = subst (λ (y : ℕ). kept t y ≡ None) same none in
    here ∙ sym (ap (option_map f) here)
none_is t x ssrc f false e none = refl

some_is : (t : Table) (x ssrc : ℕ) (f : Source → Source) (s : Source) (b : Bool) → nat_eq ssrc x ≡ b → kept t x ≡ Some s → kept (with_source t x (f s)) ssrc ≡ cond b (option_map f (kept t ssrc)) (kept t ssrc)
some_is t x ssrc f s true e some =
    let same : x ≡ ssrc = sym (eqb-true ssrc x e) in
    let here : kept t ssrc ≡ Some s = subst (λ (y : ℕ). kept t y ≡ Some s) same some in
    put_at t.sources ssrc x (f s) true e ∙ sym (ap (option_map f) here)
some_is t x ssrc f s false e some = put_at t.sources ssrc x (f s) false e

changed_is : (t : Table) (x ssrc : ℕ) (f : Source → Source) (o : Option Source) → kept t x ≡ o → kept (changed_by t x o f) ssrc ≡ cond (nat_eq ssrc x) (option_map f (kept t ssrc)) (kept t ssrc)
changed_is t x ssrc f None e = none_is t x ssrc f (nat_eq ssrc x) refl e
changed_is t x ssrc f (Some s) e = some_is t x ssrc f s (nat_eq ssrc x) refl e

changed_distinct : (t : Table) (x : ℕ) (f : Source → Source) (o : Option Source) → Distinct t.sources → Distinct (changed_by t x o f).sources
changed_distinct t x f None d = d
changed_distinct t x f (Some s) d = distinct_put t.sources x (f s) d

changed_setting : (t : Table) (x : ℕ) (f : Source → Source) (o : Option Source) → (changed_by t x o f).probation ≡ t.probation
changed_setting t x f None = refl
changed_setting t x f (Some s) = refl

changed_names : (t : Table) (x ssrc : ℕ) (f : Source → Source) (o : Option Source) → name_of (changed_by t x o f) ssrc ≡ name_of t ssrc
changed_names t x ssrc f None = refl
changed_names t x ssrc f (Some s) = refl

after_change : (probation : ℕ) (calls : List Call) (call : Call) (old : Table) (x : ℕ) (f : Source → Source)
    → ((ssrc : ℕ) (k : Option Told) → alone_next probation ssrc k call ≡ cond (nat_eq ssrc x) (option_map (told_changed f) k) k) → Is probation calls old → Is probation (call ∷ calls) (changed old x f)
after_change probation calls call old x f says h = record {
  distinct = changed_distinct old x f (kept old x) h.distinct;
  setting = changed_setting old x f (kept old x) ∙ h.setting;
  each = λ ssrc.
      changed_is old x ssrc f (kept old x) refl ∙ ap (λ (o : Option Source). cond (nat_eq ssrc x) (option_map f o) o) (h.each ssrc)
      ∙ source_changed f (nat_eq ssrc x) (alone probation ssrc calls) ∙ ap source_in (sym (says ssrc (alone probation ssrc calls)));
  names = λ ssrc.
      changed_names old x ssrc f (kept old x) ∙ h.names ssrc ∙ name_stays f (nat_eq ssrc x) (alone probation ssrc calls)
      ∙ ap told_name (sym (says ssrc (alone probation ssrc calls)));
}

all_changed : (f : Source → Source) (k : Option Told) → option_map f (source_in k) ≡ source_in (option_map (told_changed f) k)
all_changed f None = refl
all_changed f (Some k) = refl

all_names : (f : Source → Source) (k : Option Told) → told_name k ≡ told_name (option_map (told_changed f) k)
all_names f None = refl
all_names f (Some k) = refl

after_blocks : (probation now : ℕ) (calls : List Call) (old : Table) → Is probation calls old → Is probation (Blocks now ∷ calls) (all_reported old)
after_blocks probation now calls old h = record {
  distinct = distinct_map reported old.sources h.distinct;
  setting = h.setting;
  each = λ ssrc. map_at reported old.sources ssrc ∙ ap (option_map reported) (h.each ssrc) ∙ all_changed reported (alone probation ssrc calls);
  names = λ ssrc. h.names ssrc ∙ all_names reported (alone probation ssrc calls);
}

-- the source that heard a packet

source_heard : (from : Address) (k : Option Told) (p : Packet) → (told_heard from k p).source ≡ hear_next (source_or from (source_in k)) p
source_heard from None p = refl
source_heard from (Some k) p = refl

name_heard : (from : Address) (k : Option Told) (p : Packet) (b : Bool) → told_name k ≡ told_name (cond b (Some (told_heard from k p)) k)
name_heard from None p true = refl
name_heard from (Some k) p true = refl
name_heard from k p false = refl

heard_at : (es : Entries) (k x : ℕ) (v : Source) (w : Told) (o : Option Told) (b : Bool) → nat_eq k x ≡ b → (k ≡ x → v ≡ w.source) → at k es ≡ source_in o → at k (insert_entry nat_eq es x v) ≡ source_in (cond b (Some w) o)
heard_at es k x v w o true e same h = put_at es k x v true e ∙ ap (λ (s : Source). Some s) (same (eqb-true k x e))
heard_at es k x v w o false e same h = put_at es k x v false e ∙ h

packet_is : (t : Table) (probation now : ℕ) (view : View) (rate : Option ℕ) (quick : Bool) → t.probation ≡ probation → packet_of t now view rate quick ≡ packet_by probation now view rate quick
packet_is t probation now view rate quick e = ap (λ (n : ℕ). packet_by n now view rate quick) e

after_packet : (probation : ℕ) (calls : List Call) (old : Table) (now : ℕ) (from : Address) (view : View) (rate : Option ℕ) (quick : Bool) (r : Result Heard Refuse)
    → Is probation calls old → Is probation (Rtp now from view rate quick r ∷ calls) (heard_next_by old from view.ssrc (packet_of old now view rate quick) r)
after_packet probation calls old now from view rate quick (Err refuse) h =
    same_table probation calls (Rtp now from view rate quick (Err refuse)) old old refl (λ ssrc. refl) h
after_packet probation calls old now from view rate quick (Ok heard) h =
    let x = view.ssrc in
    let p = packet_of old now view rate quick in
    let q = packet_by probation now view rate quick in
    record {
      distinct = distinct_put old.sources x (hear_next (source_or from (kept old x)) p) h.distinct;
      setting = h.setting;
      each = λ ssrc.
          heard_at old.sources ssrc x (hear_next (source_or from (kept old x)) p) (told_heard from (alone probation ssrc calls) q) (alone probation ssrc calls) (nat_eq ssrc x) refl
          (λ same.
          ap (hear_next (source_or from (kept old x))) (packet_is old probation now view rate quick h.setting)
          ∙ ap (λ (o : Option Source). hear_next (source_or from o) q) (ap (kept old) (sym same) ∙ h.each ssrc)
          ∙ sym (source_heard from (alone probation ssrc calls) q)) (h.each ssrc);
      names = λ ssrc. h.names ssrc ∙ name_heard from (alone probation ssrc calls) q (nat_eq ssrc x);
    }

-- a name

source_named : (text : List ℕ) (b : Bool) (k : Option Told) → source_in k ≡ source_in (cond b (option_map (told_named text) k) k)
source_named text true None = refl
source_named text true (Some k) = refl
source_named text false k = refl

unnamed : (text : List ℕ) (b : Bool) (k : Option Told) → (b ≡ true → source_in k ≡ None) → told_name k ≡ told_name (cond b (option_map (told_named text) k) k)
unnamed text true None e = refl
unnamed text true (Some k) e = absurd (let x : Some k.source ≡ None = e refl in cc)
unnamed text false k e = refl

renamed : (text : List ℕ) (b : Bool) (k : Option Told) → (b ≡ true → told_name k ≡ Some text) → told_name k ≡ told_name (cond b (option_map (told_named text) k) k)
renamed text true None e = refl
renamed text true (Some k) e = e refl
renamed text false k e = refl

put_name : (ns : Names) (k x : ℕ) (text : List ℕ) (o : Option Told) (s : Source) (b : Bool) → nat_eq k x ≡ b → (k ≡ x → source_in o ≡ Some s) → lookup (nat_eq k) ns ≡ told_name o
    → lookup (nat_eq k) (insert_entry nat_eq ns x text) ≡ told_name (cond b (option_map (told_named text) o) o)
put_name ns k x text None s true e there h = absurd (let n : None ≡ Some s = there (eqb-true k x e) in cc)
put_name ns k x text (Some w) s true e there h = put_at ns k x text true e
put_name ns k x text o s false e there h = put_at ns k x text false e ∙ h

after_name : (probation : ℕ) (calls : List Call) (old : Table) (x : ℕ) (text : List ℕ) (answer : Named) (o : Option Source) (n : Option (List ℕ)) (b : Bool)
    → kept old x ≡ o → name_of old x ≡ n → is_name text n ≡ b → Is probation calls old → Is probation (Sets x text answer ∷ calls) (name_next_by old x text (named_by o n text))
after_name probation calls old x text answer None n b e f g h = record {
  distinct = h.distinct;
  setting = h.setting;
  each = λ ssrc. h.each ssrc ∙ source_named text (nat_eq ssrc x) (alone probation ssrc calls);
  names = λ ssrc.
      h.names ssrc
      ∙ unnamed text (nat_eq ssrc x) (alone probation ssrc calls) (λ same. sym (h.each ssrc) ∙ ap (kept old) (eqb-true ssrc x same) ∙ e);
}
after_name probation calls old x text answer (Some s) n true e f g h =
    let is : Is probation (Sets x text answer ∷ calls) old = record {
      distinct = h.distinct;
      setting = h.setting;
      each = λ ssrc. h.each ssrc ∙ source_named text (nat_eq ssrc x) (alone probation ssrc calls);
      names = λ ssrc.
          h.names ssrc
          ∙ renamed text (nat_eq ssrc x) (alone probation ssrc calls)
          (λ same. sym (h.names ssrc) ∙ ap (name_of old) (eqb-true ssrc x same) ∙ f ∙ is_the_name n text g);
    } in
    subst (λ (c : Bool). Is probation (Sets x text answer ∷ calls) (name_next_by old x text (if c then Same else Changed))) (sym g) is
after_name probation calls old x text answer (Some s) n false e f g h =
    let is : Is probation (Sets x text answer ∷ calls) (name_next_by old x text Changed) = record {
      distinct = h.distinct;
      setting = h.setting;
      each = λ ssrc. h.each ssrc ∙ source_named text (nat_eq ssrc x) (alone probation ssrc calls);
      names = λ ssrc.
          put_name old.names ssrc x text (alone probation ssrc calls) s (nat_eq ssrc x) refl
          (λ same. sym (h.each ssrc) ∙ ap (kept old) same ∙ e) (h.names ssrc);
    } in
    subst (λ (c : Bool). Is probation (Sets x text answer ∷ calls) (name_next_by old x text (if c then Same else Changed))) (sym g) is

-- sources that are removed

source_left : (p : Source → Bool) (k : Option Told) → only_if p (source_in k) ≡ source_in (only_if (λ x. p x.source) k)
source_left p None = refl
source_left p (Some k) = by (p k.source) refl
  where
    by : (b : Bool) → p k.source ≡ b → cond b (Some k.source) None ≡ source_in (cond b (Some k) None)
    by true e = refl
    by false e = refl

name_left : (p : Source → Bool) (k : Option Told) → cond (has p (source_in k)) None (told_name k) ≡ told_name (only_if (λ x. not (p x.source)) k)
name_left p None = refl
name_left p (Some k) = by (p k.source)
  where
    by : (b : Bool) → cond b None k.name ≡ told_name (cond (not b) (Some k) None)
    by true = refl
    by false = refl

after_expiry : (probation : ℕ) (calls : List Call) (old : Table) (now timeout : ℕ) → Is probation calls old → Is probation (Expires now timeout ∷ calls) (expired old now timeout)
after_expiry probation calls old now timeout h =
    let p : Source → Bool = λ s. is_gone s now timeout in
    let q : Source → Bool = λ s. not (is_gone s now timeout) in
    record {
      distinct = distinct_left old.sources q h.distinct;
      setting = h.setting;
      each = λ ssrc. left_at old.sources ssrc q h.distinct ∙ ap (only_if q) (h.each ssrc) ∙ source_left q (alone probation ssrc calls);
      names = λ ssrc.
          names_at (λ x. list_any (nat_eq x) (gone old now timeout)) old.names ssrc
          ∙ ap (λ (b : Bool). cond b None (name_of old ssrc)) (gone_at p old.sources ssrc h.distinct)
          ∙ ap (λ (o : Option Source). cond (has p o) None (name_of old ssrc)) (h.each ssrc)
          ∙ ap (λ (n : Option (List ℕ)). cond (has p (source_in (alone probation ssrc calls))) None n) (h.names ssrc)
          ∙ name_left p (alone probation ssrc calls);
    }

-- ---- the whole

step : (own probation : ℕ) (calls : List Call) (call : Call) → IsAnswered (table own probation calls) call → Is probation calls (table own probation calls) → Is probation (call ∷ calls) (table own probation (call ∷ calls))
step own probation calls (Rtp now from view rate quick answer) says h =
    subst (λ (r : Result Heard Refuse). Is probation (Rtp now from view rate quick answer ∷ calls) (heard_next_by (table own probation calls) from view.ssrc (packet_of (table own probation calls) now view rate quick) r))
    says (after_packet probation calls (table own probation calls) now from view rate quick answer h)
step own probation calls (Reports now x seconds fraction) says h =
    after_change probation calls (Reports now x seconds fraction) (table own probation calls) x (λ s. report_next s now seconds fraction) (λ k s. refl) h
step own probation calls (Leaves x) says h = after_change probation calls (Leaves x) (table own probation calls) x left_next (λ k s. refl) h
step own probation calls (Sets x text answer) says h =
    after_name probation calls (table own probation calls) x text answer (kept (table own probation calls) x) (name_of (table own probation calls) x) (is_name text (name_of (table own probation calls) x)) refl refl refl h
step own probation calls (Block x now) says h = after_change probation calls (Block x now) (table own probation calls) x reported (λ k s. refl) h
step own probation calls (Blocks now) says h = after_blocks probation now calls (table own probation calls) h
step own probation calls (Expires now timeout) says h = after_expiry probation calls (table own probation calls) now timeout h

pub is_alone : (own probation : ℕ) (calls : List Call) → AreAnswered own probation calls → Is probation calls (table own probation calls)
is_alone own probation [] h = record { distinct = tt; setting = refl; each = λ ssrc. refl; names = λ ssrc. refl }
is_alone own probation (call ∷ before) h = step own probation before call h.0 (is_alone own probation before h.1)

told_is : (s : Option Source) (n : Option (List ℕ)) (k : Option Told) → s ≡ source_in k → n ≡ told_name k → option_map (λ x. told_of x n) s ≡ k
told_is s n None e f = ap (option_map (λ x. told_of x n)) e
told_is s n (Some k) e f = ap (option_map (λ x. told_of x n)) e ∙ ap (λ (m : Option (List ℕ)). Some (told_of k.source m)) f

isolated_table : (own probation : ℕ) (calls : List Call) → AreAnswered own probation calls → (ssrc : ℕ) → told (table own probation calls) ssrc ≡ alone probation ssrc calls
isolated_table own probation calls h ssrc =
    let is = is_alone own probation calls h in
    told_is (kept (table own probation calls) ssrc) (name_of (table own probation calls) ssrc) (alone probation ssrc calls) (is.each ssrc) (is.names ssrc)

pub isolation : IsIsolated
unfolding StandsFor
isolation t own probation calls h ssrc = ap (λ (x : Table). told x ssrc) h.0 ∙ isolated_table own probation calls h.1 ssrc

nameless : (k : Option Told) → source_in k ≡ None → told_name k ≡ None
nameless None e = refl
nameless (Some k) e = absurd (let x : Some k.source ≡ None = e in cc)

pub named_if_kept : IsNamedIfKept
unfolding StandsFor
named_if_kept t own probation calls h ssrc e =
    let is = is_alone own probation calls h.1 in
    ap (λ (x : Table). name_of x ssrc) h.0 ∙ is.names ssrc
    ∙ nameless (alone probation ssrc calls) (sym (is.each ssrc) ∙ ap (λ (x : Table). kept x ssrc) (sym h.0) ∙ e)

-- the name of a source is what is told of it alone
pub name_is : (t : Table) (own probation : ℕ) (calls : List Call) → StandsFor t own probation calls → (ssrc : ℕ) → name_of t ssrc ≡ told_name (alone probation ssrc calls)
unfolding StandsFor
name_is t own probation calls h ssrc = ap (λ (x : Table). name_of x ssrc) h.0 ∙ (is_alone own probation calls h.1).names ssrc
