-- The machine value of a `Held`: its pointer and its allocator. Assumes `Logic`.
--     R, Z, LZ, g      the kept program, the allocator, its laws and its ghost members
--     LooseRow, Row    a loose box of a kept program, and what C keeps of one
--     held_out         a `Held` is [what is at its pointer; the allocator].        held_in    the way back
use Rattle.std.proofs.Common.{◌≡◌, List, [], ◌∷◌, ◌++◌, refl, sym, subst, true≢false, T, lit<}
use Rattle.std.specs.Prelude.{Option, Some, None, IsSome}
use seplogic.Ra.Ura.{Ura}
use mir.Val.{Val, vstruct, of_list, has_ty, WT}
use types.Logic.{Logic}
use types.Kit.{Item, Goal, Seq, Step, step, ‵, ◌$◌, move, drop, fsplit, fjoin, fpack, fpick, feq_i, feq_l}
use denote.RattleType.{RattleType, Valss}
use denote.Builtin.{RawPtr}
use denote.RawPtr.{Ptr, block_ptr, null_ptr, ptr_val}
use denote.Steps.{nothing}
use denote.Param.{layout}
use denote.Param.Laws.{Laws}
use denote.Struct.Struct.{within}
use denote.Struct.Owning.{shape, to}
use Rattle.std.proofs.alloc.Calls.{Al, handle_tells}
use Rattle.std.proofs.cell.Inside.{Good}
use mir.Syntax.{impl, tnil, dnil}
use Rattle.std.specs.declared.alloc.Allocator.{Ghosts}
use Rattle.std.specs.contracts.alloc.Global as global
use Rattle.std.proofs.alloc.Global.TheLaws as global_laws
use Rattle.std.specs.contracts.impls.GlobalAllocator.TheImpl.{ghosts}
use Rattle.flow_kept.specs.contracts.shared.Shared as kept
use Rattle.loose_box.specs.contracts.Loose as loose
use Rattle.loose_box.proofs.Values.{both, loose_good}
use Rattle.tacflow_c.specs.Held.{held}
use Rattle.tacflow_c.specs.contracts.held.Held as row
use Rattle.tacflow_c.specs.declared.held.Held.{Held}

abbrev pub R : RattleType
R = kept.the_row

abbrev pub Z : RattleType
Z = global.the_row

abbrev pub LZ : Laws Z
LZ = global_laws.the_row_laws

abbrev pub g : Ghosts Z.Denot
g = ghosts

abbrev pub LooseRow : RattleType
LooseRow = loose.the_row R Z g

abbrev pub Row : RattleType
Row = row.the_row

-- the value that there is
pub got : {X : Type 0} (y : Option X) → IsSome y → X
got None s = absurd (true≢false (sym s))
got (Some x) s = x

pub got_is : {X : Type 0} (y : Option X) (s : IsSome y) → y ≡ Some (got y s)
unfolding got
got_is None s = absurd (true≢false (sym s))
got_is (Some x) s = refl

abbrev pub al : Al
al = record { row = Z; laws = LZ; g = g; d = impl [] tnil dnil; drops = impl [] tnil dnil }

pub held_good : (p : Ptr) (h : Val) → Good (layout Z) h → T (has_ty (layout Row) (both (ptr_val p) h)) × WT (both (ptr_val p) h)
held_good (block_ptr b o) h fits = loose_good R Z LZ g b o h fits
held_good null_ptr h fits = ((loose_good R Z LZ g 0 0 h fits).0, (record { fits = lit< tt }, (fits.1, tt)))

module _ {M : Type 1} {𝓤 : Ura M} {𝓛 : Logic 𝓤} {K : Type 0} {Γ : List (Item 𝓤)} {G : Goal 𝓤 𝓛.H} where
  pub held_out : K → (d : Held) (vs : List Val)
      → ((h : Val) → vs ≡ both (ptr_val d.at) h ∷ [] → Good (layout Z) h → Seq K 𝓛 (‵ (held (g.dealloc_token d.alloc) R d.at d.value) ∷ ‵ (Z.own_val d.alloc (h ∷ [])) ∷ Γ) G)
      → Seq K 𝓛 (‵ (Row.own_val d vs) ∷ Γ) G
  held_out t d vs k =
      fsplit t $ fpick t (λ vss. fsplit t $ feq_l t (λ ev. fsplit t $ feq_l t (λ ep. fsplit t $ handle_tells al t d.alloc vss.1.0 (λ h ea fits. move t (1 ∷ []) $ drop t $ move t (1 ∷ []) $
      k h (subst (λ (ws : List Val). vs ≡ vstruct (of_list (ptr_val d.at ∷ (ws ++ []))) ∷ []) ea (subst (λ (ps : List Val). vs ≡ vstruct (of_list (ps ++ (vss.1.0 ++ []))) ∷ []) ep ev)) fits))))

  pub held_in : K → (d : Held) (h : Val)
      → Step K 𝓛 (‵ (Row.own_val d (both (ptr_val d.at) h ∷ [])) ∷ Γ) G (‵ (held (g.dealloc_token d.alloc) R d.at d.value) ∷ ‵ (Z.own_val d.alloc (h ∷ [])) ∷ Γ) G
  held_in t d h = step (λ s. let v : Val = both (ptr_val d.at) h in
      nothing t $ move t (2 ∷ 0 ∷ []) $ fjoin t $ feq_i t (List Val) (ptr_val d.at ∷ []) (ptr_val d.at ∷ []) refl $ fjoin t $ feq_i t (List Val) (v ∷ []) (v ∷ []) refl $ fjoin t $
      fpack t (Valss (RawPtr ∷ Z ∷ [])) (within (shape row.the_type) (to row.the_type d) (v ∷ [])) (ptr_val d.at ∷ [], (h ∷ [], tt)) $ fjoin t $ s)
