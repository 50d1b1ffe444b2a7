use Rattle.std.proofs.Common.{◌≡◌, length, arith, ap, refl, sym, ◌∙◌, subst}
use Rattle.flow_graph.specs.Points.{point_count}
use Rattle.flow_links.specs.Shapes.{LinkedProgram}
use Rattle.gk_solve.specs.Solved.{SliceTable, direction_of}
use Rattle.gk_solve.specs.Tables.Groups.{IsGroupFrame}
use Rattle.gk_solve.specs.Tables.SliceTables.{view_of}
use Rattle.gk_solve.specs.Tables.Widths.{width_of}
use Rattle.gk_solve.specs.declared.slice_words.SliceWords.TheInside.{Inside}
use Rattle.gk_solve.specs.declared.word_tables.Tables.TheVariants.{One, Four, Eight}
use Rattle.gk_solve.proofs.words.SolvedWords.{solved_by_frame}
use Rattle.gk_solve.proofs.slice_words.SliceWords.solve_group_from.Goals as goal

pub returns-in-One-clause-solved : goal.returns-in-One-clause-solved
returns-in-One-clause-solved c =
    let form = c.args.problem.now in
    let frame = c.group_frame-frame.result in
    let width : c.width-width.result ≡ 1 = c.width-width.ensures ∙ ap width_of c.in-One.is in
    let direction : frame.links.now ≡ direction_of form = c.group_frame-frame.ensures.links ∙ c.requires.routes in
    let points : length c.self.inside.dirty ≡ point_count frame.links.now.program =
    ap (λ (s : SliceTable). s.points) c.self.view_is
    ∙ (c.requires.slice.points ∙ ap (λ (l : LinkedProgram). point_count l.program) (sym direction)) in
    let hi : c.self.inside.hi ≡ c.args.self.now.hi = ap (λ (s : SliceTable). s.hi) c.self.view_is in
    let inside : Inside = record {
      lo = c.self.inside.lo;
      hi = c.self.inside.hi;
      from = c.args.word;
      until = c.group_end-until.result;
      tables = One c.solve.new.self;
      dirty = c.solve.new.dirty;
      callers = c.solve.new.callers;
      variables = c.self.inside.variables;
      dependence = c.put_dependence.new.table;
    } in
    solved_by_frame form frame 1 (point_count frame.links.now.program) c.solve.new.self.points.items (view_of inside)
    (subst (λ w. IsGroupFrame w frame) width c.group_frame-frame.ensures.frame)
    c.group_frame-frame.ensures.problem c.group_frame-frame.ensures.first (omega (arith, hi, c.requires.slice.within)) refl
    (omega (arith, c.group_end-until.ensures.fits, width)) (omega (arith, points, c.solve.ensures.dirty)) c.solve.ensures.solutions

pub returns-in-Four-clause-solved : goal.returns-in-Four-clause-solved
returns-in-Four-clause-solved c =
    let form = c.args.problem.now in
    let frame = c.group_frame-frame.result in
    let width : c.width-width.result ≡ 4 = c.width-width.ensures ∙ ap width_of c.in-Four.is in
    let direction : frame.links.now ≡ direction_of form = c.group_frame-frame.ensures.links ∙ c.requires.routes in
    let points : length c.self.inside.dirty ≡ point_count frame.links.now.program =
    ap (λ (s : SliceTable). s.points) c.self.view_is
    ∙ (c.requires.slice.points ∙ ap (λ (l : LinkedProgram). point_count l.program) (sym direction)) in
    let hi : c.self.inside.hi ≡ c.args.self.now.hi = ap (λ (s : SliceTable). s.hi) c.self.view_is in
    let inside : Inside = record {
      lo = c.self.inside.lo;
      hi = c.self.inside.hi;
      from = c.args.word;
      until = c.group_end-until.result;
      tables = Four c.solve-in-Four.new.self;
      dirty = c.solve-in-Four.new.dirty;
      callers = c.solve-in-Four.new.callers;
      variables = c.self.inside.variables;
      dependence = c.put_dependence.new.table;
    } in
    solved_by_frame form frame 4 (point_count frame.links.now.program) c.solve-in-Four.new.self.points.items (view_of inside)
    (subst (λ w. IsGroupFrame w frame) width c.group_frame-frame.ensures.frame)
    c.group_frame-frame.ensures.problem c.group_frame-frame.ensures.first (omega (arith, hi, c.requires.slice.within)) refl
    (omega (arith, c.group_end-until.ensures.fits, width)) (omega (arith, points, c.solve-in-Four.ensures.dirty)) c.solve-in-Four.ensures.solutions

pub returns-in-Eight-clause-solved : goal.returns-in-Eight-clause-solved
returns-in-Eight-clause-solved c =
    let form = c.args.problem.now in
    let frame = c.group_frame-frame.result in
    let width : c.width-width.result ≡ 8 = c.width-width.ensures ∙ ap width_of c.in-Eight.is in
    let direction : frame.links.now ≡ direction_of form = c.group_frame-frame.ensures.links ∙ c.requires.routes in
    let points : length c.self.inside.dirty ≡ point_count frame.links.now.program =
    ap (λ (s : SliceTable). s.points) c.self.view_is
    ∙ (c.requires.slice.points ∙ ap (λ (l : LinkedProgram). point_count l.program) (sym direction)) in
    let hi : c.self.inside.hi ≡ c.args.self.now.hi = ap (λ (s : SliceTable). s.hi) c.self.view_is in
    let inside : Inside = record {
      lo = c.self.inside.lo;
      hi = c.self.inside.hi;
      from = c.args.word;
      until = c.group_end-until.result;
      tables = Eight c.solve-in-Eight.new.self;
      dirty = c.solve-in-Eight.new.dirty;
      callers = c.solve-in-Eight.new.callers;
      variables = c.self.inside.variables;
      dependence = c.put_dependence.new.table;
    } in
    solved_by_frame form frame 8 (point_count frame.links.now.program) c.solve-in-Eight.new.self.points.items (view_of inside)
    (subst (λ w. IsGroupFrame w frame) width c.group_frame-frame.ensures.frame)
    c.group_frame-frame.ensures.problem c.group_frame-frame.ensures.first (omega (arith, hi, c.requires.slice.within)) refl
    (omega (arith, c.group_end-until.ensures.fits, width)) (omega (arith, points, c.solve-in-Eight.ensures.dirty)) c.solve-in-Eight.ensures.solutions
