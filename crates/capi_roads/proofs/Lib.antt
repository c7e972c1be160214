pub mod RecipeLists
pub mod RecipeChecks
pub mod RoadsMeet
pub mod Methods
