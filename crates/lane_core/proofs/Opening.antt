-- A lane begins behind the others.
use Rattle.std.proofs.Common.{ℕ, ◌≡◌, ◌<◌, Bool, true, false, refl, sym, ap, subst, ◌∙◌, List, [], ◌∷◌, ◌++◌, length, Some, arith}
use Rattle.std.specs.Prelude.{slice_get}
use Rattle.std.proofs.lemmas.List.{append-nil}
use Rattle.jitter_model.specs.declared.Entry.TheVariants.{Latency}
use Rattle.jitter_core.specs.Words.{Stands}
use Rattle.script_lang.specs.Contents.{Contents}
use Rattle.timeline.specs.declared.line.BinLine.{BinLine}
use Rattle.front_model.specs.declared.Opening.{Opening}
use Rattle.replay_model.specs.Events.{Timeline, Began, At, lane, openings}
use Rattle.replay_model.specs.Lanes.{lane_count, opening_or, opened, latency_of, is_flushing_of}
use Rattle.replay_model.specs.Taking.{flushed_at_begin, begun}
use Rattle.lane_core.specs.declared.counts.Counts.{Counts}
use Rattle.lane_core.specs.declared.lane.Lane.{Lane}
use Rattle.lane_core.specs.Lanes.{Base, FreshLane, LaneTells, GoesOn, begun_with}
use Rattle.lane_core.specs.AllLanes.{total, resting_but, BeginsAs, LanesRest}
use Rattle.lane_core.proofs.Histories.{at_append}
use Rattle.lane_core.proofs.Placing.{lanes_apart, lanes_opened, new_tells}

-- the lanes as they began, behind the latency and the flush
flushed_openings : (b : Bool) (t l : ℕ) (tl : Timeline) → openings (flushed_at_begin b t l tl) ≡ openings tl
flushed_openings true t l tl = refl
flushed_openings false t l tl = refl

begun_openings : (c : Contents) (t : ℕ) (x : Opening) (tl : Timeline) → openings (begun c t x tl) ≡ openings tl ++ x ∷ []
begun_openings c t x tl = flushed_openings (is_flushing_of x.session tl) t (lane_count tl) (At t (lane_count tl) (Latency (latency_of c x.session tl)) ∷ Began t x ∷ tl)

at_last : (xs : List Opening) (x : Opening) → slice_get (xs ++ x ∷ []) (length xs) ≡ Some x
at_last [] x = refl
at_last (y ∷ xs) x = at_last xs x

pub opened_before : (c : Contents) (t : ℕ) (x : Opening) (tl : Timeline) (k : ℕ) → k < lane_count tl → opened c tl k ≡ opened c (begun c t x tl) k
opened_before c t x tl k lt =
    sym (ap (λ (xs : List Opening). opening_or c k (slice_get xs k)) (begun_openings c t x tl) ∙ ap (opening_or c k) (at_append (openings tl) (x ∷ []) k lt))

pub opened_last : (c : Contents) (t : ℕ) (x : Opening) (tl : Timeline) → opened c (begun c t x tl) (lane_count tl) ≡ x
opened_last c t x tl =
    ap (λ (xs : List Opening). opening_or c (lane_count tl) (slice_get xs (lane_count tl))) (begun_openings c t x tl) ∙ ap (opening_or c (lane_count tl)) (at_last (openings tl) x)

fresh_tells :
    (o : ℕ → Opening) (base : Base) (resting : ℕ → Bool) (ls : List Lane) (x : Opening) (l : Lane) (told : List BinLine) (tl : Timeline)
    → o (length ls) ≡ x → x.lane ≡ length ls
    → FreshLane x l
    → LanesRest o base resting ls told tl
    → LaneTells o (record { base = base; histories = λ k. lane k tl; counts = total ls }) (length ls) l told tl
fresh_tells o base resting ls x l told tl is number f h =
    let none : lane (length ls) tl ≡ [] = h.tells.silent (length ls) (omega arith) in
    let out_none : l.counts.out ≡ 0 = ap (λ (c : Counts). c.out) f.counts in
    let lost_none : l.counts.lost ≡ 0 = ap (λ (c : Counts). c.lost) f.counts in
    let refused_none : l.counts.refused ≡ 0 = ap (λ (c : Counts). c.refused) f.counts in
    record {
      holds =
          record {
            number_is = f.number_is ∙ number;
            session_is = f.session_is ∙ ap (λ (y : Opening). y.session) (sym is);
            ssrc_is = f.ssrc_is ∙ ap (λ (y : Opening). y.ssrc) (sym is);
            settings = f.settings ∙ ap (λ (y : Opening). y.settings) (sym is);
            stands = subst (Stands l.buffer) (sym none) f.stands;
          };
      others = λ k ne. refl;
      tallies = record { out = omega (arith, h.tells.tallies.out); lost = omega (arith, h.tells.tallies.lost); refused = omega (arith, h.tells.tallies.refused) };
      written = h.tells.written;
    }

begun_is : (c : Contents) (t ns : ℕ) (x : Opening) (flushing : Bool) (ls : List Lane) (o : ℕ → Opening) (tl : Timeline) → BeginsAs c x ns flushing ls tl → begun_with t ns flushing o (length ls) (Began t x ∷ tl) ≡ begun c t x tl
begun_is c t ns x flushing ls o tl b =
    ap (λ (n : ℕ). flushed_at_begin flushing t n (At t n (Latency ns) ∷ Began t x ∷ tl)) b.count
    ∙ ap (λ (m : ℕ). flushed_at_begin flushing t (lane_count tl) (At t (lane_count tl) (Latency m) ∷ Began t x ∷ tl)) b.latency
    ∙ ap (λ (f : Bool). flushed_at_begin f t (lane_count tl) (At t (lane_count tl) (Latency (latency_of c x.session tl)) ∷ Began t x ∷ tl)) b.flushing_is

pub opens :
    (c : Contents) (base : Base) (resting : ℕ → Bool) (t ns : ℕ) (x : Opening) (flushing : Bool) (ls : List Lane) (made new : Lane) (told more : List BinLine) (tl : Timeline)
    → x.lane ≡ length ls
    → FreshLane x made
    → GoesOn made new told more (begun_with t ns flushing)
    → BeginsAs c x ns flushing ls tl
    → LanesRest (opened c tl) base resting ls told tl
    → LanesRest (opened c (begun c t x tl)) base (resting_but (length ls) resting) (ls ++ new ∷ []) more (begun c t x tl)
opens c base resting t ns x flushing ls made new told more tl number fresh goes b h =
    let o : ℕ → Opening = opened c (begun c t x tl) in
    let before : LanesRest o base resting ls told (Began t x ∷ tl) =
    lanes_opened (opened c tl) o base resting ls told (Began t x ∷ tl)
    (λ k lt. opened_before c t x tl k (omega (arith, b.count)))
    (lanes_apart (opened c tl) base resting ls told told [] tl (Began t x ∷ tl) (λ k. refl) refl (sym (append-nil told)) (record { out_is = refl; lost_is = refl; refused_is = refl }) h) in
    let is : o (length ls) ≡ x = ap o b.count ∙ opened_last c t x tl in
    let one : LaneTells o (record { base = base; histories = λ k. lane k (Began t x ∷ tl); counts = total ls }) (length ls) new more (begun_with t ns flushing o (length ls) (Began t x ∷ tl)) =
    goes o _ (length ls) (Began t x ∷ tl) (fresh_tells o base resting ls x made told (Began t x ∷ tl) is number fresh before) in
    new_tells o base resting ls new told more (Began t x ∷ tl) (begun c t x tl) before
    (subst (λ (after : Timeline). LaneTells o (record { base = base; histories = λ k. lane k (Began t x ∷ tl); counts = total ls }) (length ls) new more after) (begun_is c t ns x flushing ls o tl b) one)
