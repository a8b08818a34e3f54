-- What a row value says: the row of document 01 that it stands for.
use Rattle.std.specs.Prelude.{List, [], ◌∷◌}
use Rattle.rules.specs.Rows as Rules
use Rattle.row.specs.declared.Relation.{Relation}
use Rattle.row.specs.declared.Relation.TheVariants.{AtLeast, Equal}
use Rattle.row.specs.declared.Term.{Term}
use Rattle.row.specs.declared.Terms.{Terms}
use Rattle.row.specs.declared.Terms.TheVariants.{Single, Pair, Triple}
use Rattle.row.specs.declared.Row.{Row}

abbrev pub relation_of : Relation → Rules.Relation
relation_of AtLeast = Rules.Relation.at_least
relation_of Equal = Rules.Relation.equal

abbrev pub term_of : Term → Rules.Term
term_of t = record { coefficient = t.coefficient; variable = t.variable }

abbrev pub terms_of : Terms → List Rules.Term
terms_of (Single a) = term_of a ∷ []
terms_of (Pair a b) = term_of a ∷ term_of b ∷ []
terms_of (Triple a b c) = term_of a ∷ term_of b ∷ term_of c ∷ []

abbrev pub row_of : Row → Rules.Row
row_of r = record { relation = relation_of r.relation; terms = terms_of r.terms; right = r.right }
