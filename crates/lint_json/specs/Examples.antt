-- What worked lines are told of.
use Rattle.std.specs.Prelude.{ℕ, List, ◌++◌, codes}
use Rattle.refusal_texts.specs.declared.told.ToldRefusal.{ToldRefusal}
use Rattle.tac_faults.specs.declared.slips.Hint.TheVariants as hint
use Rattle.tac_lines.specs.declared.refusal.RefusalKind.TheVariants as kind

abbrev pub semicolon : ToldRefusal
semicolon = record { refusal = record { kind = kind.BadByte; line = 2; column = 6 }; hint = hint.Semicolon }

abbrev pub unknown : ToldRefusal
unknown = record { refusal = record { kind = kind.UnknownLabel; line = 3; column = 11 }; hint = hint.None }

-- the beginning of a remark's line
abbrev pub remark_at : (line : List ℕ) → List ℕ
remark_at line = codes "{\"type\":\"remark\",\"file\":\"a.tac\",\"line\":" ++ line ++ codes ",\"column\":1,\"kind\":\""

-- worked lines
abbrev pub uncalled_line : List ℕ
uncalled_line = remark_at (codes "9") ++ codes "never-called\",\"words\":\"procedure q is never called\",\"procedure\":\"q\"}\n"

abbrev pub stretch_line : List ℕ
stretch_line =
    remark_at (codes "4") ++ codes "never-reached\",\"words\":\"no statement from here to line 5 is ever reached\",\"last_line\":5,"
    ++ codes "\"procedure\":\"main\"}\n"

abbrev pub dead_line : List ℕ
dead_line =
    remark_at (codes "2") ++ codes "dead\",\"words\":\"the value assigned to x is never used\",\"variable\":\"x\",\"procedure\":\"main\"}\n"

abbrev pub semicolon_line : List ℕ
semicolon_line =
    codes "{\"type\":\"error\",\"file\":\"a.tac\",\"line\":2,\"column\":6,\"refusal\":1,"
    ++ codes "\"words\":\"no word, number or sign begins with this byte\","
    ++ codes "\"note\":\"a statement ends with its line: leave the semicolon out\"}\n"

abbrev pub unknown_line : List ℕ
unknown_line =
    codes "{\"type\":\"error\",\"file\":\"a.tac\",\"line\":3,\"column\":11,\"refusal\":9,"
    ++ codes "\"words\":\"this procedure has no label of this name\"}\n"
