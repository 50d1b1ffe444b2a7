-- What is shown in the worked texts.
use Rattle.std.specs.Prelude.{true, false, Some, None}
use Rattle.flow_views.specs.declared.view.Chosen.{Chosen}
use Rattle.flow_views.specs.declared.view.Look.{Look}
use Rattle.flow_views.specs.declared.view.View.{View}

abbrev pub nothing_chosen : Chosen
nothing_chosen = record { reach = false; live = false; avail = false; busy = false }

abbrev pub all_chosen : Chosen
all_chosen = record { reach = true; live = true; avail = true; busy = true }

-- facts before statements alone, with the dummy definitions
abbrev pub plain_look : Look
plain_look = record { hides_entry = false; behind = false; hovers = false; legend = false; changes = false }

-- facts behind statements too, with the dummy definitions and without them
abbrev pub with_entry : Look
with_entry = record { hides_entry = false; behind = true; hovers = false; legend = false; changes = false }

abbrev pub without_entry : Look
without_entry = record { hides_entry = true; behind = true; hovers = false; legend = false; changes = false }

-- what changes in place of sets, behind statements too
abbrev pub changing_with_entry : View
changing_with_entry = record { facts = all_chosen; procedure = None; look = record with_entry { changes = true } }

abbrev pub changing_without_entry : View
changing_without_entry = record { facts = all_chosen; procedure = None; look = record without_entry { changes = true } }

-- all procedures, with facts behind statements
abbrev pub behind_with_entry : View
behind_with_entry = record { facts = all_chosen; procedure = None; look = with_entry }

abbrev pub behind_without_entry : View
behind_without_entry = record { facts = all_chosen; procedure = None; look = without_entry }

-- all procedures, with reaching definitions and live variables
abbrev pub reach_and_live : View
reach_and_live = record { facts = record { reach = true; live = true; avail = false; busy = false }; procedure = None; look = plain_look }

-- the second procedure alone, without facts
abbrev pub second_alone : View
second_alone = record { facts = nothing_chosen; procedure = Some 1; look = plain_look }

-- the first procedure alone, without facts
abbrev pub first_alone : View
first_alone = record { facts = nothing_chosen; procedure = Some 0; look = plain_look }

-- all procedures, without facts
abbrev pub plain : View
plain = record { facts = nothing_chosen; procedure = None; look = plain_look }

-- reaching definitions and live variables in tooltips
abbrev pub hovering : View
hovering = record { facts = record { reach = true; live = true; avail = false; busy = false }; procedure = None; look = record plain_look { hovers = true } }
