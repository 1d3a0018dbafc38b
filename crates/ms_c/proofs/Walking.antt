-- The names that the walks of this crate cite, passed on from one file. Declares nothing.
pub use Rattle.std.proofs.Common.{◌≡◌, List, [], ◌∷◌, ◌++◌, refl, sym, ap, ◌∙◌, subst}
pub use Rattle.std.proofs.raw_atomic.Walks.{proved_at}
pub use Rattle.std.proofs.alloc.Calls.{Goes-blank, handle_tells, token}
pub use Rattle.std_alloc.specs.Box.Ownership.{box_owns}
pub use Rattle.std_alloc.proofs.BoxSteps.Form.{Bx, D, τ, R, P, B, args, word, handle, box_ty, box_typed}
pub use Rattle.std_alloc.proofs.BoxSteps.Steps.{box_out, box_in}
pub use base.Logic.{SProp, id⊢, fst∗, never, emp}
pub use base.Fml.{ftrue, flft, fsep}
pub use contract.BorrowLft.{◌⊑◌}
pub use contract.Monad.{fact}
pub use contract.Running.{tables}
pub use mir.MapTy.{inst_fn}
pub use mir.Raw.{raw as bare}
pub use mir.Syntax.{a_type, dcons, dnil}
pub use mir.Val.{Val, vptr, vint, vstruct, vcons, vnil, of_list, has_ty, WT}
pub use prog.Wp.{WpFn}
pub use types.Logic.{sem}
pub use types.Kit.{Item, ‵, raw, ◌⊛◌, some, later, prop, at_ret, ◌$◌, ◌∵◌, !, qed, by, done, move, drop, use1, split}
pub use types.Kit.{split3, join, fsplit, fsplit3, fjoin, fjoin3, fpick, fpack, feq_i, feq_l, pick, await, rewrite}
pub use types.Kit.{regoal, suffices, group}
pub use types.Part.{whole, sub, agg}
pub use types.Run.{enter, of_opd, lit, stop, fld, no_more, and_then, first, blocks, exec, returns}
pub use types.ByLocal.{alloc_all, pass_all, free_all, look_at, get, get_in, sets, lands_as, lands_last, env}
pub use denote.Exit.{yes, no}
pub use denote.Memory.{lone}
pub use denote.Param.{bounded, layout}
pub use denote.RattleType.{RattleType, Valss, owns}
pub use denote.RawPtr.{Ptr, RawPtr, block_ptr, null_ptr, ptr_val, in_a_block}
pub use denote.Signature.{plain, types_at, type_at}
pub use denote.Steps.{nothing, heard, only}
pub use denote.Struct.Owning.{shape}
pub use denote.Struct.Struct.{within}
pub use denote.Struct.Tuple.{Tuple}
pub use denote.Triple.Call.{calls_at, calls_at_last}
pub use denote.Triple.Clauses.{Lasts, lasts}
pub use denote.Triple.Entry.{alive, on_entry}
pub use denote.Triple.Spec.{triple_of}
pub use denote.Triple.Table.{framed}
pub use denote.Triple.Walked.{Stays, walk_of, says, stay_dropped, ends_at}
