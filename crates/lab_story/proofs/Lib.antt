mod Lists
mod Steps
