-- The losses of blocks fit a report.
use Rattle.std.proofs.Common.{◌≡◌, ℕ, ◌-◌, ◌+◌, ℤ, pos, negsuc, ◌≤ℤ◌, neg_ℤ, Bool, true, false, cond, min, List, [], ◌∷◌, ◌++◌, Option, Some, None, slice_get, take, ap, ◌∙◌, sym, arith}
use Rattle.std.specs.Prelude.{nat_le, filter_map}
use Rattle.std.specs.List.{AllByRecursion, cons_option}
use Rattle.std.proofs.lemmas.Int.{ints}
use Rattle.std.proofs.lemmas.List.{take_more, append-nil}
use Rattle.std.proofs.lemmas.List.Elements.{filter_map-append}
use Rattle.rtcp_wire.specs.declared.block.ReportBlock.{ReportBlock}
use Rattle.rtcp_wire.specs.Written.{LossFits}
use Rattle.source_table.specs.declared.counts.Counts.{Counts}
use Rattle.source_table.specs.declared.source.Source.{Source}
use Rattle.source_table.specs.Counting.{lost_of, expected_of}
use Rattle.source_table.specs.Sources.{block_of, block_from}
use Rattle.source_table.proofs.Gone.{at_get}

abbrev Fits : ℤ → Type 0
Fits z = (negsuc 8388607 ≤ℤ z) × (z ≤ℤ pos 8388607)

more_fits : (n : ℕ) → Fits (pos (min n 8388607))
more_fits n = (omega (arith, ints), omega (arith, ints))

fewer_fits : (n : ℕ) → Fits (neg_ℤ (pos (min n 8388608)))
fewer_fits n = (omega (arith, ints), omega (arith, ints))

either_fits : (b : Bool) (m n : ℕ) → Fits (cond b (pos (min m 8388607)) (neg_ℤ (pos (min n 8388608))))
either_fits true m n = more_fits m
either_fits false m n = fewer_fits n

loss_fits : (c : Counts) → Fits (lost_of c)
loss_fits c = either_fits (nat_le c.received (expected_of c)) (expected_of c - c.received) (c.received - expected_of c)

abbrev AllFit : List ReportBlock → Type 0
AllFit bs = AllByRecursion LossFits bs

spoken_fits : (b : Bool) (x : ReportBlock) (bs : List ReportBlock) → LossFits x → AllFit bs → AllFit (cons_option (cond b (Some x) None) bs)
spoken_fits true x bs here rest = (here, rest)
spoken_fits false x bs here rest = rest

one_fits : (o : Option Counts) (s : Source) (ssrc now : ℕ) (bs : List ReportBlock) → AllFit bs → AllFit (cons_option (block_from o s ssrc now) bs)
one_fits None s ssrc now bs rest = rest
one_fits (Some c) s ssrc now bs rest = spoken_fits s.spoke _ bs (loss_fits c) rest

pub blocks_fit : (now : ℕ) (es : List (ℕ × Source)) → AllFit (filter_map (λ e. block_of e.1 e.0 now) es)
blocks_fit now [] = tt
blocks_fit now (e ∷ es) = one_fits e.1.counts e.1 e.0 now (filter_map (λ x. block_of x.1 x.0 now) es) (blocks_fit now es)

-- ---- the blocks of the first sources, one source more

blocks_more : (now : ℕ) (es : List (ℕ × Source)) (i : ℕ) (e : ℕ × Source) → slice_get es i ≡ Some e
    → filter_map (λ x. block_of x.1 x.0 now) (take (i + 1) es) ≡ filter_map (λ x. block_of x.1 x.0 now) (take i es) ++ cons_option (block_of e.1 e.0 now) []
blocks_more now es i e at =
    let there = at_get es i e at in
    ap (filter_map (λ x. block_of x.1 x.0 now)) (take_more es i e there.0 ∙ ap (λ (x : ℕ × Source). take i es ++ x ∷ []) there.1)
    ∙ filter_map-append (λ x. block_of x.1 x.0 now) (take i es) (e ∷ [])

pub blocks_then : (now : ℕ) (es : List (ℕ × Source)) (i : ℕ) (e : ℕ × Source) (b : ReportBlock) → slice_get es i ≡ Some e → Some b ≡ block_of e.1 e.0 now
    → filter_map (λ x. block_of x.1 x.0 now) (take (i + 1) es) ≡ filter_map (λ x. block_of x.1 x.0 now) (take i es) ++ b ∷ []
blocks_then now es i e b at is =
    blocks_more now es i e at ∙ ap (λ (o : Option ReportBlock). filter_map (λ x. block_of x.1 x.0 now) (take i es) ++ cons_option o []) (sym is)

pub blocks_still : (now : ℕ) (es : List (ℕ × Source)) (i : ℕ) (e : ℕ × Source) → slice_get es i ≡ Some e → None ≡ block_of e.1 e.0 now
    → filter_map (λ x. block_of x.1 x.0 now) (take (i + 1) es) ≡ filter_map (λ x. block_of x.1 x.0 now) (take i es)
blocks_still now es i e at is =
    blocks_more now es i e at ∙ ap (λ (o : Option ReportBlock). filter_map (λ x. block_of x.1 x.0 now) (take i es) ++ cons_option o []) (sym is)
    ∙ append-nil (filter_map (λ x. block_of x.1 x.0 now) (take i es))
