-- The names that the proofs of the pointer functions share.
pub use mathlib.Core.Path.{◌≡◌, refl, sym, ap, subst, ◌∙◌}
pub use Prim.Native.Nat.{ℕ, zero, suc, ◌+◌, ◌*◌, ◌<◌, ◌≤◌, ◌^◌}
pub use native.Mathlib.Omega.{arith}
pub use native.Mathlib.Nat.{zero-mul, suc-mul}
pub use mathlib.Core.List.{List, [], ◌∷◌, ◌++◌}
pub use lib.Dec.{lit<}
pub use seplogic.Ra.Ura.{Ura}
pub use base.Fraction.{full_share}
pub use base.Logic.{SProp, ent, sep, ex, guard, emp, never, via, id⊢, snd∗}
pub use base.Fml.{Fml, Lft, Share, ftrue, fsep, fat, froom, flft, fobs, fbor, Incl-trans}
pub use mir.Syntax.{Ty, Fn, Body, named, w64, ty_array, ty_ptr, a_type, dcons, dnil}
pub use mir.MapTy.{inst_fn}
pub use mir.Val.{Val, vptr, vint, vunit, vstruct, vcons, vnil}
pub use prog.Wp.{Wp, WpFn, Env, after_seq, at_return}
pub use types.Logic.{Logic, sem}
pub use contract.Monad.{fact}
pub use contract.BorrowLft.{◌⊑◌}
pub use contract.Running.{tables, tables_of}
pub use types.Kit.{Item, Goal, Seq, Step, step, ⋆, ‵, raw, ◌⊛◌, some, given, later, pick, learn, await, at_ret, prop, any_q, ◌$◌, ◌∵◌, !, qed, by, move, keep, drop, use0, use1, use2, use3, split, split3, join, rewrite, fsplit, fsplit3, fjoin, fjoin3, fpick, fpack, feq_i, feq_l, flt_i, flt_l, check, show, suffices, frame, group, done}
pub use types.Part.{whole, sub, look_in, agg}
pub use types.Run.{init, look, load, stop, fld, addr, lit, unit_lit, size_lit, size_word, align_word, of_opd, bin, assigns_last, first, blocks, exec, returns, enter, and_then, no_more, switches_on}
pub use types.ByLocal.{alloc_all, pass_all, free_all, look_at, get, get_in, get_tag, through, sets, sets_last, lands_as, lands_last, is, env}
pub use denote.Exit.{yes, no}
pub use denote.RattleType.{RattleType, owns}
pub use denote.Laws.{Typed, Is, shows}
pub use denote.Memory.{mem, lone, part_at, cell_at, hidden_shr}
pub use denote.Param.{param, layout, layouts, bounded}
pub use denote.Param.Laws.{Laws, param_laws}
pub use denote.RawPtr.{Ptr, RawPtr, block_ptr, null_ptr, ptr_val, in_a_block}
pub use denote.Ref.{Bor, MutBor, MutRef, ShrRef, mut_vals, mut_Tells, shr_vals, shr_Tells}
pub use denote.Builtin.{RefOf, RefMutOf, unit, usize}
pub use denote.Signature.{plain}
pub use denote.Steps.{nothing, owned, opens, closes, looks, shuts, peeks, heard}
pub use denote.Opens.{hide, unhide}
pub use denote.Triple.Walked.{says, Stays, stay_dropped, stay_ref, walk_of, ends_at, Goes-dropped, Goes-ref}
pub use borrow.Table.OneValue.{part_in, part_out}
pub use Rattle.std.specs.Prelude.{Option, Some, None, length, set, get_or, replicate}
pub use Rattle.std.specs.Mem.{type_size}
pub use Rattle.std.specs.declared.alloc.Allocator.{Ghosts}
pub use Rattle.std.proofs.mem.Param.{El}
pub use Rattle.std.proofs.ptr.Rows.{times_below, one_below}
pub use Rattle.std.proofs.RawLayout.{as_raw, as_written}
pub use Rattle.std.proofs.VecSteps.Shapes.{after}
pub use Rattle.std.proofs.raw_atomic.Walks.{proved_at}
pub use lib.ListN.{length-set}
pub use denote.Struct.Laws.{RawPtr-copy}
pub use prog.Memory.{align, capped}
pub use prog.Capped.{capped_fits}
pub use denote.Triple.Call.{calls_at, calls_at_last}
pub use denote.Triple.Table.{framed}
pub use Rattle.std.proofs.alloc.Calls.{Al, Takes, at_takes, Answered, answers, Answer-typed, Takes-goes, Takes-gives, Gives, at_gives, Gives-goes, Gives-Gives, Goes-blank}
