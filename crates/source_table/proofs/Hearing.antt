-- What a packet leaves of the sources, and so of a table.
use Rattle.std.proofs.Common.{◌≡◌, ◌<◌, ◌^◌, ℕ, ◌+◌, Bool, true, false, cond, nat_eq, List, [], ◌∷◌, Option, Some, None, refl, sym, ap, subst, ◌∙◌}
use Rattle.std.specs.Prelude.{Result, Ok, Err}
use Rattle.std.specs.Map.{lookup, set_value}
use Rattle.indexmap.specs.IndexMap.{insert_entry}
use Rattle.rtp_units.specs.declared.shared.Address.{Address}
use Rattle.source_table.specs.declared.source.Source.{Source}
use Rattle.source_table.specs.declared.source.Packet.{Packet}
use Rattle.source_table.specs.declared.source.Heard.{Heard}
use Rattle.source_table.specs.declared.answers.Refuse.{Refuse}
use Rattle.source_table.specs.declared.answers.Refuse.TheVariants.{Own, LimitSources, Collision, OutOfMemory}
use Rattle.source_table.specs.Sources.{fresh, hear_next}
use Rattle.source_table.specs.Ranges.{AreInRange}
use Rattle.rtp_wire.specs.Packet.{Packet as View}
use Rattle.source_table.specs.Table.{Table, kept, packet_of, Takes, Hears, HearsKept, HearsBy, HearsIn}
use Rattle.source_table.proofs.Ranging.{fresh_in, found_in, heard_range}

abbrev pub packet : ℕ → ℕ → ℕ → Option ℕ → ℕ → Packet
packet now seq timestamp rate count = record { arrival = now; seq = seq; timestamp = timestamp; rate = rate; needed = count }

abbrev Entries : Type 0
Entries = List (ℕ × Source)

-- ---- a source that is there

set_by : (b : Bool) (k x : ℕ) (v u w : Source) (es : Entries) → cond b (Some u) (lookup (nat_eq k) es) ≡ Some v
    → (lookup (nat_eq k) es ≡ Some v → set_value (nat_eq k) es w ≡ insert_entry nat_eq es k w)
    → cond b ((x, w) ∷ es) ((x, u) ∷ set_value (nat_eq k) es w) ≡ cond b ((x, w) ∷ es) ((x, u) ∷ insert_entry nat_eq es k w)
set_by true k x v u w es e rest = refl
set_by false k x v u w es e rest = ap (λ (l : Entries). (x, u) ∷ l) (rest e)

-- to write its value is to put it
set_is_put : (es : Entries) (k : ℕ) (v w : Source) → lookup (nat_eq k) es ≡ Some v → set_value (nat_eq k) es w ≡ insert_entry nat_eq es k w
set_is_put [] k v w e = absurd cc
set_is_put (e ∷ es) k v w there = set_by (nat_eq k e.0) k e.0 v e.1 w es there (set_is_put es k v w)

same_by : (b : Bool) (k x : ℕ) (v u : Source) (es : Entries) → cond b (Some u) (lookup (nat_eq k) es) ≡ Some v
    → (lookup (nat_eq k) es ≡ Some v → insert_entry nat_eq es k v ≡ es)
    → cond b ((x, v) ∷ es) ((x, u) ∷ insert_entry nat_eq es k v) ≡ (x, u) ∷ es
same_by true k x v u es e rest = let same : u ≡ v = cc in ap (λ (s : Source). (x, s) ∷ es) (sym same)
same_by false k x v u es e rest = ap (λ (l : Entries). (x, u) ∷ l) (rest e)

-- to put it as it was changes nothing
put_same : (es : Entries) (k : ℕ) (v : Source) → lookup (nat_eq k) es ≡ Some v → insert_entry nat_eq es k v ≡ es
put_same [] k v e = absurd cc
put_same (e ∷ es) k v there = same_by (nat_eq k e.0) k e.0 v e.1 es there (put_same es k v)

-- ---- the sources after a packet

pub kept_hears : (es new : Entries) (from : Address) (ssrc : ℕ) (p : Packet) (answer : Result Heard Refuse) (s after : Source)
    → lookup (nat_eq ssrc) es ≡ Some s → HearsKept s from p answer after → new ≡ set_value (nat_eq ssrc) es after → HearsIn es from ssrc p answer new
kept_hears es new from ssrc p answer s after k h is =
    subst (λ (o : Option Source). HearsBy o es from ssrc p answer new) (sym k) (after, h, is ∙ set_is_put es ssrc s after k)

refused_by : (o : Option Source) (es new : Entries) (from : Address) (ssrc : ℕ) (p : Packet) (why : Refuse)
    → lookup (nat_eq ssrc) es ≡ o → HearsBy o es from ssrc p (Err why) new → new ≡ es
refused_by None es new from ssrc p Own k h = absurd h
refused_by None es new from ssrc p LimitSources k h = h.1
refused_by None es new from ssrc p (Collision first other) k h = absurd h
refused_by None es new from ssrc p OutOfMemory k h = h
refused_by (Some s) es new from ssrc p Own k h = absurd h.1
refused_by (Some s) es new from ssrc p LimitSources k h = absurd h.1
refused_by (Some s) es new from ssrc p (Collision first other) k (after, (one, two, apart, same), is) =
    is ∙ ap (λ (x : Source). insert_entry nat_eq es ssrc x) same ∙ put_same es ssrc s k
refused_by (Some s) es new from ssrc p OutOfMemory k h = absurd h.1

-- a refusal leaves them in their range
pub refused_range : (n : ℕ) (es new : Entries) (from : Address) (ssrc : ℕ) (p : Packet) (why : Refuse)
    → AreInRange n es → HearsIn es from ssrc p (Err why) new → AreInRange n new
refused_range n es new from ssrc p why range h =
    subst (AreInRange n) (sym (refused_by (lookup (nat_eq ssrc) es) es new from ssrc p why refl h)) range

range_by : (o : Option Source) (n : ℕ) (es new : Entries) (from : Address) (ssrc : ℕ) (p : Packet) (heard : Heard)
    → AreInRange n es → n < 2 ^ 40 → p.seq < 65536 → lookup (nat_eq ssrc) es ≡ o → HearsBy o es from ssrc p (Ok heard) new → AreInRange (n + 1) new
range_by None n es new from ssrc p heard range few small k (room, answered, is) =
    heard_range n es new ssrc (fresh from) (hear_next (fresh from) p) p range few is refl small (fresh_in n from)
range_by (Some s) n es new from ssrc p heard range few small k (after, (here, answered, next), is) =
    heard_range n es new ssrc s after p range few is next small (found_in n es ssrc s range.sources k)

-- and so does a packet that was heard
pub answered_range : (n : ℕ) (es new : Entries) (from : Address) (ssrc : ℕ) (p : Packet) (heard : Heard)
    → AreInRange n es → n < 2 ^ 40 → p.seq < 65536 → HearsIn es from ssrc p (Ok heard) new → AreInRange (n + 1) new
answered_range n es new from ssrc p heard range few small h =
    range_by (lookup (nat_eq ssrc) es) n es new from ssrc p heard range few small refl h

-- ---- the table after it

pub packet_is : (now : ℕ) (rate : Option ℕ) {seq timestamp count s t n : ℕ} → seq ≡ s → timestamp ≡ t → count ≡ n
    → packet now seq timestamp rate count ≡ packet now s t rate n
packet_is now rate a b c = λ i. packet now (a i) (b i) rate (c i)

abbrev with_sources : Table → Entries → Table
with_sources t es = record t { sources = es }

err_by : (o : Option Source) (t : Table) (new : Entries) (from : Address) (ssrc : ℕ) (p : Packet) (why : Refuse)
    → (ssrc ≡ t.own → ⊥) → kept t ssrc ≡ o → HearsBy o t.sources from ssrc p (Err why) new → new ≡ t.sources
    → Hears t from ssrc p (Err why) (with_sources t new)
err_by None t new from ssrc p Own other k h is = absurd h
err_by None t new from ssrc p LimitSources other k h is = (other, k, h.0, ap (with_sources t) is)
err_by None t new from ssrc p (Collision first last) other k h is = absurd h
err_by None t new from ssrc p OutOfMemory other k h is = ap (with_sources t) is
err_by (Some s) t new from ssrc p Own other k h is = absurd h.1
err_by (Some s) t new from ssrc p LimitSources other k h is = absurd h.1
err_by (Some s) t new from ssrc p (Collision first last) other k (after, (one, two, apart, same), put) is =
    (other, s, k, one, two, apart, ap (with_sources t) is)
err_by (Some s) t new from ssrc p OutOfMemory other k h is = absurd h.1

refused_of : (t : Table) (new : Entries) (from : Address) (ssrc : ℕ) (p : Packet) (why : Refuse)
    → (ssrc ≡ t.own → ⊥) → HearsIn t.sources from ssrc p (Err why) new → Hears t from ssrc p (Err why) (with_sources t new)
refused_of t new from ssrc p why other h =
    err_by (kept t ssrc) t new from ssrc p why other refl h (refused_by (kept t ssrc) t.sources new from ssrc p why refl h)

pub refused_hears : (t u : Table) (new : Entries) (now : ℕ) (from : Address) (view : View) (rate : Option ℕ) (quick : Bool) (ssrc : ℕ) (p : Packet) (why : Refuse)
    → u ≡ t → ssrc ≡ view.ssrc → p ≡ packet_of t now view rate quick → (ssrc ≡ u.own → ⊥) → HearsIn u.sources from ssrc p (Err why) new
    → Hears t from view.ssrc (packet_of t now view rate quick) (Err why) (record u { sources = new })
refused_hears t u new now from view rate quick ssrc p why table same is other h =
    subst (λ (x : Table). Hears x from view.ssrc (packet_of t now view rate quick) (Err why) (with_sources u new)) table
    (subst (λ (x : Packet). Hears u from view.ssrc x (Err why) (with_sources u new)) is
    (subst (λ (n : ℕ). Hears u from n p (Err why) (with_sources u new)) same (refused_of u new from ssrc p why other h)))

abbrev with_heard : Table → Entries → Table
with_heard t es = record t { sources = es; heard = t.heard + 1 }

ok_by : (o : Option Source) (t : Table) (new : Entries) (from : Address) (ssrc : ℕ) (p : Packet) (heard : Heard)
    → (ssrc ≡ t.own → ⊥) → kept t ssrc ≡ o → HearsBy o t.sources from ssrc p (Ok heard) new → Hears t from ssrc p (Ok heard) (with_heard t new)
ok_by None t new from ssrc p heard other k (room, answered, is) = (
  other,
  fresh from,
  subst (λ (o : Option Source). Takes t ssrc from o (fresh from)) (sym k) (room, refl),
  answered,
  ap (with_heard t) is,
)
ok_by (Some s) t new from ssrc p heard other k (after, (here, answered, next), is) = (
  other,
  s,
  subst (λ (o : Option Source). Takes t ssrc from o s) (sym k) (here, refl),
  answered,
  ap (with_heard t) (is ∙ ap (λ (x : Source). insert_entry nat_eq t.sources ssrc x) next),
)

answered_of : (t : Table) (new : Entries) (from : Address) (ssrc : ℕ) (p : Packet) (heard : Heard)
    → (ssrc ≡ t.own → ⊥) → HearsIn t.sources from ssrc p (Ok heard) new → Hears t from ssrc p (Ok heard) (with_heard t new)
answered_of t new from ssrc p heard other h = ok_by (kept t ssrc) t new from ssrc p heard other refl h

pub answered_hears : (t u : Table) (new : Entries) (now : ℕ) (from : Address) (view : View) (rate : Option ℕ) (quick : Bool) (ssrc : ℕ) (p : Packet) (heard : Heard)
    → u ≡ t → ssrc ≡ view.ssrc → p ≡ packet_of t now view rate quick → (ssrc ≡ u.own → ⊥) → HearsIn u.sources from ssrc p (Ok heard) new
    → Hears t from view.ssrc (packet_of t now view rate quick) (Ok heard) (record u { sources = new; heard = u.heard + 1 })
answered_hears t u new now from view rate quick ssrc p heard table same is other h =
    subst (λ (x : Table). Hears x from view.ssrc (packet_of t now view rate quick) (Ok heard) (with_heard u new)) table
    (subst (λ (x : Packet). Hears u from view.ssrc x (Ok heard) (with_heard u new)) is
    (subst (λ (n : ℕ). Hears u from n p (Ok heard) (with_heard u new)) same (answered_of u new from ssrc p heard other h)))
