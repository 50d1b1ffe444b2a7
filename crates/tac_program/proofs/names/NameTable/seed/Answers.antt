use Rattle.std.proofs.Common.{◌∙◌, ◌<◌, ◌^◌, List, [], ap, bytes_eq, fold, length, subst, sym}
use Rattle.std.specs.Cmp.Lexicographic.{nat_list_eq_equiv}
use Rattle.indexmap.specs.IndexSet.{insert_key}
use Rattle.tac_program.specs.code.Names.{texts}
use Rattle.tac_program.specs.declared.name_keys.NameKey.{NameKey}
use Rattle.tac_program.proofs.known_names.NameTexts.{put_anew}
use Rattle.tac_program.proofs.names.NameTable.seed.Goals as goal

pub invariant_of-self-2 : goal.invariant_of-self-2
invariant_of-self-2 c =
    let keys = c.self.inside.names.keys in
    let anew = put_anew (λ x y. bytes_eq x.bytes.items y.bytes.items) (λ x y. nat_list_eq_equiv.symm x.bytes.items y.bytes.items)
    [] keys c.len.ensures.unique in
    let same = c.in_ok-append.ensures.keys
    ∙ ap (λ ks. fold (insert_key (λ (x y : NameKey). bytes_eq x.bytes.items y.bytes.items)) ks keys) c.with_hasher-seeded.ensures.empty ∙ anew in
    subst (λ (ks : List NameKey). length ks < 2 ^ 32) (sym same) c.self.invariant

pub returns : goal.returns
returns c =
    let keys = c.self.inside.names.keys in
    let anew = put_anew (λ x y. bytes_eq x.bytes.items y.bytes.items) (λ x y. nat_list_eq_equiv.symm x.bytes.items y.bytes.items)
    [] keys c.len.ensures.unique in
    let same = c.in_ok-append.ensures.keys
    ∙ ap (λ ks. fold (insert_key (λ (x y : NameKey). bytes_eq x.bytes.items y.bytes.items)) ks keys) c.with_hasher-seeded.ensures.empty ∙ anew in
    ap texts same ∙ c.self.view_is
