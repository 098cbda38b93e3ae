-- What a view tells.
use Rattle.std.specs.Prelude.{ℕ, List, [], ◌∷◌}
use Rattle.std.specs.Option.{option_map_or}
use Rattle.turbine.specs.declared.turbine_tree.View.{View}

-- the root, 1 and the parent's id or two zeros, and the words read
abbrev pub numbers_of : View → List ℕ
numbers_of view =
    view.tree.root ∷ option_map_or (λ _. 1) view.tree.parent 0 ∷ option_map_or (λ id. id) view.tree.parent 0 ∷ view.words_read ∷ []
