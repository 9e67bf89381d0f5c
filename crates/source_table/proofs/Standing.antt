-- A table that becomes what a call makes of it stands for that call too.
use Rattle.std.proofs.Common.{◌≡◌, ℕ, Bool, List, [], nat_eq, Option, Some, None, refl, sym, ap, subst, ◌∙◌}
use Rattle.std.specs.Prelude.{Result}
use Rattle.rtp_units.specs.declared.shared.Address.{Address}
use Rattle.rtp_wire.specs.Packet.{Packet as View}
use Rattle.source_table.specs.declared.source.Source.{Source}
use Rattle.source_table.specs.declared.source.Heard.{Heard}
use Rattle.source_table.specs.declared.answers.Refuse.{Refuse}
use Rattle.source_table.specs.declared.answers.Named.{Named}
use Rattle.source_table.specs.Table.{Table, empty, kept, packet_of, changed_by, changed, Hears, Names}
use Rattle.source_table.specs.Answers.{IsAnswer}
use Rattle.source_table.specs.History.{Call, Rtp, Sets, table_next, IsAnswered, StandsFor, Extends}
use Rattle.indexmap.specs.IndexMap.{insert_entry}
use Rattle.source_table.proofs.Answering.{one_hearing, one_naming}

pub begins : (own probation : ℕ) → StandsFor (empty own probation) own probation []
unfolding StandsFor
begins own probation = (refl, tt)

pub begins_at : (t : Table) (own probation : ℕ) → t ≡ empty own probation → StandsFor t own probation []
begins_at t own probation e = subst (λ (x : Table). StandsFor x own probation []) (sym e) (begins own probation)

pub extends : (old : Table) (call : Call) (new : Table) → new ≡ table_next old call → IsAnswered old call → Extends old call new
unfolding StandsFor
extends old call new e a = λ own probation calls h. (e ∙ ap (λ (t : Table). table_next t call) h.0, (subst (λ (t : Table). IsAnswered t call) h.0 a, h.1))

pub heard_extends : (old new : Table) (now : ℕ) (from : Address) (view : View) (rate : Option ℕ) (quick : Bool) (answer : Result Heard Refuse)
    → Hears old from view.ssrc (packet_of old now view rate quick) answer new → IsAnswer answer → Extends old (Rtp now from view rate quick answer) new
heard_extends old new now from view rate quick answer h a =
    let is = one_hearing old new from view.ssrc (packet_of old now view rate quick) answer h a in
    extends old (Rtp now from view rate quick answer) new is.1 is.0

pub named_extends : (old new : Table) (ssrc : ℕ) (text : List ℕ) (answer : Named) → Names old ssrc text answer new → Extends old (Sets ssrc text answer) new
named_extends old new ssrc text answer h =
    let is = one_naming old new ssrc text answer h in
    extends old (Sets ssrc text answer) new is.1 is.0

-- a call that changes one source, where it is kept
pub rests : (t : Table) (call : Call) (ssrc : ℕ) (f : Source → Source) → kept t ssrc ≡ None → changed t ssrc f ≡ table_next t call → IsAnswered t call → Extends t call t
rests t call ssrc f k is a = extends t call t (sym (ap (λ (o : Option Source). changed_by t ssrc o f) k) ∙ is) a

pub changes : (t : Table) (call : Call) (ssrc : ℕ) (f : Source → Source) (s after : Source) (es : List (ℕ × Source))
    → kept t ssrc ≡ Some s → es ≡ insert_entry nat_eq t.sources ssrc after → after ≡ f s → changed t ssrc f ≡ table_next t call → IsAnswered t call
    → Extends t call (record t { sources = es })
changes t call ssrc f s after es k e is next a =
    extends t call (record t { sources = es })
    (ap (λ (x : List (ℕ × Source)). record t { sources = x }) (e ∙ ap (λ (x : Source). insert_entry nat_eq t.sources ssrc x) is)
    ∙ sym (ap (λ (o : Option Source). changed_by t ssrc o f) k) ∙ next)
    a
